-- What a slice hands up and holds after the edge stays within its widths, whatever its attributes. Assumes nothing.
use Prim.Native.Nat.{ℕ, ◌^◌, ◌<◌}
use mathlib.Core.Bool.{◌&&◌}
use mathlib.Core.List.{List, [], ◌∷◌}
use lib.Dec.{T, eqb, ltb, lit<}
use lib.ListN.{length, get_or}
use lib.Pow.{pow_pos}
use Rattle.unit.specs.Choice.{bit}
use Rattle.unit.proofs.Laws.{mux_lt, cond_lt, load_lt, pre_adder_lt, product_lt, pd_lt, pbd_lt}
use Rattle.unit.proofs.Lanes.{result_lt}
use Rattle.unit.proofs.Carry.{carry_lt}
use Rattle.records.specs.declared.Attributes.{Attributes}
use Rattle.records.specs.declared.Registers.{Registers}
use Rattle.records.specs.declared.Ports.{Ports}
use Rattle.slice.specs.declared.inputs.Cascade.{Cascade}
use Rattle.records.specs.Records.{register_widths, port_widths, registers_words, ports_words}
use Rattle.records.proofs.Fits.{Fit, none, more, fit_at}
use Rattle.slice.specs.Slice.{paths_of, pre_added_of, product_of, result_of, settled_carry, settled_of, slice_settled, outputs_of_settled, cascade_of, edge, next_of, slice_outputs, slice_cascade, slice_next}

-- the cascade: A 30 bits, B 18, P 48, the carry 1
abbrev pub CascadeFit : Cascade → Type 0
CascadeFit x = Fit (30 ∷ 18 ∷ 48 ∷ 1 ∷ []) (x.a ∷ x.b ∷ x.p ∷ x.carry ∷ [])

-- word i of a record that fits, in the order of its words
word_lt : {widths words : List ℕ} → Fit widths words → (i : ℕ) → T (ltb i (length widths)) → get_or words i 0 < 2 ^ get_or widths i 0
word_lt f i t = fit_at f i (lit< t)

edge_lt : (p : Ports) (rst ce w : ℕ) {word input : ℕ} → word < 2 ^ w → input < 2 ^ w → edge p rst ce word input < 2 ^ w
unfolding edge
edge_lt p rst ce w h k = load_lt (bit p.rst rst) (bit p.ce ce) (pow_pos w) h k

module _ (a : Attributes) {r : Registers} {p : Ports} {x : Cascade} where
  pub cascade_fit : Fit register_widths (registers_words r) → Fit port_widths (ports_words p) → CascadeFit x → CascadeFit (slice_cascade a r p x)
  unfolding slice_cascade cascade_of paths_of slice_outputs outputs_of_settled slice_settled settled_of settled_carry result_of
  cascade_fit rs ps xs =
      let ain = mux_lt a.a_input (word_lt ps 0 tt) (word_lt xs 0 tt) in
      let bin = mux_lt a.b_input (word_lt ps 1 tt) (word_lt xs 1 tt) in
      more (cond_lt (eqb a.areg 2 && eqb a.acascreg 1) (word_lt rs 0 tt) (mux_lt a.areg ain (word_lt rs 1 tt)))
      (more (cond_lt (eqb a.breg 2 && eqb a.bcascreg 1) (word_lt rs 2 tt) (mux_lt a.breg bin (word_lt rs 3 tt)))
      (more (mux_lt a.preg (result_lt _ _ _ _ _ _ _) (word_lt rs 8 tt))
      (more (mux_lt a.preg (carry_lt _ _ _ _ _ _ _) (word_lt rs 18 tt)) none)))

  pub next_fit : Fit register_widths (registers_words r) → Fit port_widths (ports_words p) → CascadeFit x
      → Fit register_widths (registers_words (slice_next a r p x))
  unfolding slice_next next_of paths_of slice_settled settled_of settled_carry result_of product_of pre_added_of
  next_fit rs ps xs =
      let ain = mux_lt a.a_input (word_lt ps 0 tt) (word_lt xs 0 tt) in
      let bin = mux_lt a.b_input (word_lt ps 1 tt) (word_lt xs 1 tt) in
      more (edge_lt p 0 0 30 (word_lt rs 0 tt) ain)
      (more (edge_lt p 0 1 30 (word_lt rs 1 tt) (cond_lt (eqb a.areg 2) (word_lt rs 0 tt) ain))
      (more (edge_lt p 1 2 18 (word_lt rs 2 tt) bin)
      (more (edge_lt p 1 3 18 (word_lt rs 3 tt) (cond_lt (eqb a.breg 2) (word_lt rs 2 tt) bin))
      (more (edge_lt p 2 4 48 (word_lt rs 4 tt) (word_lt ps 2 tt))
      (more (edge_lt p 3 5 27 (word_lt rs 5 tt) (word_lt ps 3 tt))
      (more (edge_lt p 3 6 27 (word_lt rs 6 tt) (pre_adder_lt _ _ _))
      (more (edge_lt p 4 7 45 (word_lt rs 7 tt) (product_lt _ _))
      (more (edge_lt p 5 8 48 (word_lt rs 8 tt) (result_lt _ _ _ _ _ _ _))
      (more (edge_lt p 6 9 9 (word_lt rs 9 tt) (word_lt ps 4 tt))
      (more (edge_lt p 7 10 4 (word_lt rs 10 tt) (word_lt ps 5 tt))
      (more (edge_lt p 8 11 5 (word_lt rs 11 tt) (word_lt ps 6 tt))
      (more (edge_lt p 6 9 3 (word_lt rs 12 tt) (word_lt ps 7 tt))
      (more (edge_lt p 9 12 1 (word_lt rs 13 tt) (word_lt ps 8 tt))
      (more (edge_lt p 5 8 1 (word_lt rs 14 tt) (pd_lt _ _ _))
      (more (edge_lt p 5 8 1 (word_lt rs 15 tt) (pbd_lt _ _ _))
      (more (edge_lt p 5 8 1 (word_lt rs 16 tt) (word_lt rs 14 tt))
      (more (edge_lt p 5 8 1 (word_lt rs 17 tt) (word_lt rs 15 tt))
      (more (edge_lt p 5 8 1 (word_lt rs 18 tt) (carry_lt _ _ _ _ _ _ _))
      none))))))))))))))))))
