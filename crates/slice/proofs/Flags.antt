-- What OVERFLOW and UNDERFLOW tell of an accumulator (02, Ask 2), with PREG 1, PATTERN 0 and a MASK of the n low bits, so that the sums
-- from -2^n to 2^n - 1 are legal; by 000's default n is 46. Assumes nothing.
use mathlib.Core.Path.{◌≡◌, refl, sym, ap, ap₂, ◌∙◌}
use mathlib.Core.Bool.{Bool, true, false, false≢true, cond, not, ◌&&◌}
use Prim.Native.Nat.{ℕ, ◌-◌, ◌^◌, ◌<◌}
use borrow.Author.Tests.{not-true}
use lib.Dec.{lit<}
use lib.IntN.{ℤ}
use Rattle.word.specs.Word.{signed}
use Rattle.word.proofs.Laws.{both_true}
use Rattle.unit.specs.Choice.{bit}
use Rattle.unit.specs.Unit.{load}
use Rattle.unit.specs.Detector.{detected}
use Rattle.unit.proofs.LegalSums.{legal_non_negative, legal_negative, outside, one_side, detected_legal}
use Rattle.records.specs.declared.Attributes.{Attributes}
use Rattle.records.specs.declared.Registers.{Registers}
use Rattle.records.specs.declared.Ports.{Ports}
use Rattle.records.specs.declared.Outputs.{Outputs}
use Rattle.slice.specs.declared.inputs.Cascade.{Cascade}
use Rattle.slice.specs.Slice.{strayed, settled_of, slice_settled, edge, next_of, slice_outputs, slice_next}
use Rattle.slice.proofs.Registered.{registered_outputs}

-- P is not reset, and its enable is e: 1 loads it, 0 keeps it
pub record Enabled (e : ℕ) (p : Ports) : Type 0 where
  pub reset : bit p.rst 5 ≡ 0
  pub enable : bit p.ce 8 ≡ e

-- PD and PBD are those of P
pub record Told (a : Attributes) (r : Registers) : Type 0 where
  pub pd_of_p : r.pd ≡ (detected r.p a.pattern a.mask).pd
  pub pbd_of_p : r.pbd ≡ (detected r.p a.pattern a.mask).pbd

module _ (a : Attributes) (r : Registers) (p : Ports) (x : Cascade) where
  -- so they are after each load of P, and while P is kept
  pub told_by_load : Enabled 1 p → Told a (slice_next a r p x)
  unfolding slice_next next_of edge load slice_settled settled_of
  told_by_load l = record { pd_of_p = rw l.reset (rw l.enable refl); pbd_of_p = rw l.reset (rw l.enable refl) }

  pub told_while_kept : Enabled 0 p → Told a r → Told a (slice_next a r p x)
  unfolding slice_next next_of edge load
  told_while_kept k t =
      record { pd_of_p = rw k.reset (rw k.enable t.pd_of_p); pbd_of_p = rw k.reset (rw k.enable t.pbd_of_p) }

  past_by_load : Enabled 1 p → ((slice_next a r p x).pdpast ≡ r.pd) × ((slice_next a r p x).pbdpast ≡ r.pbd)
  unfolding slice_next next_of edge load
  past_by_load l = (rw l.reset (rw l.enable refl), rw l.reset (rw l.enable refl))

strayed_tests : (past pd pbd : Bool) → strayed (cond past 1 0) (cond pd 1 0) (cond pbd 1 0) ≡ cond (past && (not pd && not pbd)) 1 0
strayed_tests true true true = refl
strayed_tests true true false = refl
strayed_tests true false true = refl
strayed_tests true false false = refl
strayed_tests false pd pbd = refl

-- the flags that a P shows which went from one sum to another in one load
abbrev pub Lit : (n : ℕ) (before now : ℤ) → Outputs → Type 0
Lit n before now o =
    (o.overflow ≡ cond (legal_non_negative n before && outside n now) 1 0)
    × (o.underflow ≡ cond (legal_negative n before && outside n now) 1 0)

module _ (a : Attributes) (n : ℕ) (fewer : n < 48) (preg : a.preg ≡ 1) (pattern : a.pattern ≡ 0) (mask : a.mask ≡ 2 ^ n - 1) where
  told_legal : (r : Registers) → Told a r
      → (r.pd ≡ cond (legal_non_negative n (signed 48 r.p)) 1 0) × (r.pbd ≡ cond (legal_negative n (signed 48 r.p)) 1 0)
  told_legal r t =
      let by-legal = detected_legal n r.p fewer in
      let settings = ap₂ (λ (u v : ℕ). detected r.p u v) pattern mask in
      (t.pd_of_p ∙ ap (λ d. d.pd) settings ∙ by-legal.0, t.pbd_of_p ∙ ap (λ d. d.pbd) settings ∙ by-legal.1)

  -- a past word, and what PD and PBD make of it now
  strays : (r : Registers) → Told a r → (past : ℕ) (legal : Bool) → past ≡ cond legal 1 0
      → strayed past r.pd r.pbd ≡ cond (legal && outside n (signed 48 r.p)) 1 0
  strays r t past legal e =
      ap (λ (u : ℕ). strayed u r.pd r.pbd) e
      ∙ ap₂ (λ (u v : ℕ). strayed (cond legal 1 0) u v) (told_legal r t).0 (told_legal r t).1
      ∙ strayed_tests legal (legal_non_negative n (signed 48 r.p)) (legal_negative n (signed 48 r.p))

  -- OVERFLOW is 1 exactly where the sum was legal and not negative and is legal no more, UNDERFLOW where it was legal and negative,
  -- whatever comes in while the flags are shown
  pub flags_exact : (r : Registers) (p p' : Ports) (x x' : Cascade) → Told a r → Enabled 1 p
      → Lit n (signed 48 r.p) (signed 48 (slice_next a r p x).p) (slice_outputs a (slice_next a r p x) p' x')
  flags_exact r p p' x x' t l =
      let shown = registered_outputs a (slice_next a r p x) p' x' preg in
      let past = past_by_load a r p x l in
      let now = strays (slice_next a r p x) (told_by_load a r p x l) in (
        ap (λ o. o.overflow) shown ∙ now _ (legal_non_negative n (signed 48 r.p)) (past.0 ∙ (told_legal r t).0),
        ap (λ o. o.underflow) shown ∙ now _ (legal_negative n (signed 48 r.p)) (past.1 ∙ (told_legal r t).1),
      )

-- what 02 asks of a swing, and of a sum that is legal no more
pub record Swings (n : ℕ) (before now : ℤ) (o : Outputs) : Type 0 where
  pub down : legal_non_negative n before ≡ true → legal_negative n now ≡ true → (o.overflow ≡ 0) × (o.underflow ≡ 0)
  pub up : legal_negative n before ≡ true → legal_non_negative n now ≡ true → (o.overflow ≡ 0) × (o.underflow ≡ 0)
  pub over : legal_non_negative n before ≡ true → outside n now ≡ true → (o.overflow ≡ 1) × (o.underflow ≡ 0)
  pub under : legal_negative n before ≡ true → outside n now ≡ true → (o.overflow ≡ 0) × (o.underflow ≡ 1)

-- a flag, by whether the sum was legal on its side and whether it is legal no more
lit : (legal out : Bool) → legal ≡ true → out ≡ true → cond {A = ℕ} (legal && out) 1 0 ≡ 1
lit legal out e f = ap₂ (λ (s t : Bool). cond (s && t) 1 0) e f

dark : (legal out : Bool) → (legal ≡ true → out ≡ true → ⊥) → cond {A = ℕ} (legal && out) 1 0 ≡ 0
dark true true f = absurd (f refl refl)
dark true false f = refl
dark false out f = refl

swings : (n : ℕ) (before now : ℤ) (o : Outputs) → Lit n before now o → Swings n before now o
swings n before now o (overflow, underflow) =
    record {
      down = λ u v. legal (λ e. false≢true (sym (not-true down_now (both_true (not up_now) (not down_now) e).1) ∙ v));
      up = λ u v. legal (λ e. false≢true (sym (not-true up_now (both_true (not up_now) (not down_now) e).0) ∙ v));
      over = λ u v. (overflow ∙ lit up_before out u v, underflow ∙ dark down_before out (λ e f. one_side n before u e));
      under = λ u v. (overflow ∙ dark up_before out (λ e f. one_side n before e u), underflow ∙ lit down_before out u v);
    }
  where
    up_before : Bool
    up_before = legal_non_negative n before

    down_before : Bool
    down_before = legal_negative n before

    up_now : Bool
    up_now = legal_non_negative n now

    down_now : Bool
    down_now = legal_negative n now

    out : Bool
    out = outside n now

    legal : (out ≡ true → ⊥) → (o.overflow ≡ 0) × (o.underflow ≡ 0)
    legal f = (overflow ∙ dark up_before out (λ e. f), underflow ∙ dark down_before out (λ e. f))

-- by 000's default: PATTERN 0 and MASK 2^46 - 1
pub default_swings : (a : Attributes) → a.preg ≡ 1 → a.pattern ≡ 0 → a.mask ≡ 2 ^ 46 - 1
    → (r : Registers) (p p' : Ports) (x x' : Cascade) → Told a r → Enabled 1 p
    → Swings 46 (signed 48 r.p) (signed 48 (slice_next a r p x).p) (slice_outputs a (slice_next a r p x) p' x')
default_swings a preg pattern mask r p p' x x' t l =
    swings 46 _ _ _ (flags_exact a 46 (lit< tt) preg pattern mask r p p' x x' t l)
