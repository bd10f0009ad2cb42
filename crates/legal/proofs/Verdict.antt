-- The quick test's verdict: within their widths a slice's settings are what each table asks for, and its tests joined are the checks
-- joined. Assumes nothing.
use Rattle.std.proofs.Common.{◌≡◌, ℕ, ◌^◌, ◌<◌, Bool, true, false, not, ◌&&◌, List, [], ◌∷◌, get_or, sym, ◌∙◌, lit<}
use borrow.Author.Tests.{not-true, not-false}
use Rattle.word.proofs.Laws.{same_test, both_true}
use Rattle.records.specs.declared.Attributes.{Attributes}
use Rattle.records.specs.declared.Registers.{Registers}
use Rattle.records.specs.declared.Ports.{Ports}
use Rattle.records.specs.Records.{attribute_words, register_words, port_words, attribute_widths, register_widths, port_widths, attributes_words, registers_words, ports_words}
use Rattle.records.proofs.Fits.{within}
use Rattle.unit.proofs.Laws.{mux_lt}
use Rattle.slice.specs.Slice.{controls_of}
use Rattle.legal.specs.Legal.{within_widths}
use Rattle.legal.proofs.Excess.{within_parts}

-- the widths that the tables ask for
module _ (a : Attributes) (r : Registers) (p : Ports) (w : within_widths a r p ≡ true) where
  attributes_within : (i : ℕ) → i < attribute_words → get_or (attributes_words a) i 0 < 2 ^ get_or attribute_widths i 0
  attributes_within = within attribute_widths (attributes_words a) (within_parts a r p w).0

  registers_within : (i : ℕ) → i < register_words → get_or (registers_words r) i 0 < 2 ^ get_or register_widths i 0
  registers_within = within register_widths (registers_words r) (within_parts a r p w).1

  ports_within : (i : ℕ) → i < port_words → get_or (ports_words p) i 0 < 2 ^ get_or port_widths i 0
  ports_within = within port_widths (ports_words p) (within_parts a r p w).2

  pub areg_lt : a.areg < 4
  areg_lt = attributes_within 0 (lit< tt)

  pub breg_lt : a.breg < 4
  breg_lt = attributes_within 1 (lit< tt)

  pub acascreg_lt : a.acascreg < 4
  acascreg_lt = attributes_within 2 (lit< tt)

  pub bcascreg_lt : a.bcascreg < 4
  bcascreg_lt = attributes_within 3 (lit< tt)

  pub preg_lt : a.preg < 2
  preg_lt = attributes_within 10 (lit< tt)

  pub mult_lt : a.use_mult < 2
  mult_lt = attributes_within 16 (lit< tt)

  pub simd_lt : a.use_simd < 4
  simd_lt = attributes_within 21 (lit< tt)

  pub amultsel_lt : a.amultsel < 2
  amultsel_lt = attributes_within 17 (lit< tt)

  pub opmode_lt : (controls_of a r p).opmode < 512
  unfolding controls_of
  opmode_lt = mux_lt a.opmodereg (ports_within 4 (lit< tt)) (registers_within 9 (lit< tt))

  pub alumode_lt : (controls_of a r p).alumode < 16
  unfolding controls_of
  alumode_lt = mux_lt a.alumodereg (ports_within 5 (lit< tt)) (registers_within 10 (lit< tt))

  pub inmode_lt : (controls_of a r p).inmode < 32
  unfolding controls_of
  inmode_lt = mux_lt a.inmodereg (ports_within 6 (lit< tt)) (registers_within 11 (lit< tt))

  pub carryinsel_lt : (controls_of a r p).carryinsel < 8
  unfolding controls_of
  carryinsel_lt = mux_lt a.carryinselreg (ports_within 7 (lit< tt)) (registers_within 12 (lit< tt))

-- ---- tests joined

-- tests that are joined in any order: all hold where the joined ones do, and the other way round
abbrev joined : Bool → List Bool → Bool
joined b [] = b
joined b (c ∷ cs) = joined (b && c) cs

abbrev Hold : List Bool → Type 0
Hold [] = Unit {0}
Hold (c ∷ cs) = (c ≡ true) × Hold cs

all_hold : (b : Bool) (cs : List Bool) → joined b cs ≡ true → (b ≡ true) × Hold cs
all_hold b [] e = (e, tt)
all_hold b (c ∷ cs) e =
    let q = all_hold (b && c) cs e in
    let p = both_true b c q.0 in (p.0, (p.1, q.1))

-- w: within the widths; s, a, b, i, o, m, c: the quick tests of the split, of A's and B's depth, of INMODE, OPMODE, ALUMODE and
-- CARRYINSEL; then what each of these rules says
module _ (w s a b i o m c : Bool) (split la lb inmode opmode alumode carryinsel : Bool)
    (fs : w ≡ true → s ≡ split) (fa : w ≡ true → a ≡ la) (fb : w ≡ true → b ≡ lb) (fi : w ≡ true → i ≡ not inmode)
    (fo : w ≡ true → o ≡ not opmode) (fm : w ≡ true → opmode ≡ false → m ≡ not alumode) (fc : w ≡ true → c ≡ not carryinsel) where
  abbrev quick : Bool
  quick = ((((((w && s) && m) && o) && i) && a) && b) && c

  abbrev checks : Bool
  checks = ((((w && not (not ((la && lb) && split))) && not inmode) && not opmode) && not alumode) && not carryinsel

  quick_checks : quick ≡ true → checks ≡ true
  quick_checks e =
      let h = all_hold w (s ∷ m ∷ o ∷ i ∷ a ∷ b ∷ c ∷ []) e in
      let t = h.0 in
      let from-o = h.1.1.1 in
      let from-a = from-o.1.1 in
      let opmode-off = not-true opmode (sym (fo t) ∙ from-o.0) in
      rw (
        t,
        sym (fa t) ∙ from-a.0,
        sym (fb t) ∙ from-a.1.0,
        sym (fs t) ∙ h.1.0,
        sym (fi t) ∙ from-o.1.0,
        sym (fo t) ∙ from-o.0,
        sym (fm t opmode-off) ∙ h.1.1.0,
        sym (fc t) ∙ from-a.1.1.0,
      )

  checks_quick : checks ≡ true → quick ≡ true
  checks_quick e =
      let h = all_hold w (not (not ((la && lb) && split)) ∷ not inmode ∷ not opmode ∷ not alumode ∷ not carryinsel ∷ []) e in
      let t = h.0 in
      let from-o = h.1.1.1 in
      let lists = all_hold la (lb ∷ split ∷ []) (not-false _ (not-true _ h.1.0)) in
      let opmode-off = not-true opmode from-o.0 in
      rw (
        t,
        fs t ∙ lists.1.1.0,
        fm t opmode-off ∙ from-o.1.0,
        fo t ∙ from-o.0,
        fi t ∙ h.1.1.0,
        fa t ∙ lists.0,
        fb t ∙ lists.1.0,
        fc t ∙ from-o.1.1.0,
      )

  -- the quick test's answer, test by test, is that of the checks
  pub verdict : quick ≡ checks
  verdict = same_test quick checks quick_checks checks_quick
