-- Words that are joined by `or` and shifted down, the widest first, leave nothing exactly where each is within its width: so do a slice's
-- words, by the tables. Assumes nothing.
use Rattle.std.proofs.Common.{◌≡◌, ℕ, zero, suc, ◌+◌, ◌/◌, ◌^◌, ◌<◌, true, false, not, ◌&&◌, eqb, ltb, List, [], ◌∷◌, ◌++◌, length, refl, ap, ◌∙◌, subst, div-lt_iff_lt-mul, add_comm, arith, lit<, pow_pos, pow-add, ltb-true, lt-ltb, eq-eqb, eqb-true}
use lib.Bits.{bit_or, or_add_and, and_le_l, and_le_r, or_lt}
use borrow.Author.Tests.{not-true}
use Rattle.word.proofs.Laws.{same_test, both_true}
use Rattle.records.specs.declared.Attributes.{Attributes}
use Rattle.records.specs.declared.Registers.{Registers}
use Rattle.records.specs.declared.Ports.{Ports}
use Rattle.records.specs.Records.{exceeds, attribute_widths, register_widths, port_widths, attributes_words, registers_words, ports_words}
use Rattle.records.proofs.Fits.{Fit, none, more, fit_within, attributes_fit, registers_fit, ports_fit}
use Rattle.legal.specs.Legal.{within_widths}

-- ---- the tables' test, record by record

pub within_parts : (a : Attributes) (r : Registers) (p : Ports) → within_widths a r p ≡ true
    → (exceeds attribute_widths (attributes_words a) ≡ false) × (exceeds register_widths (registers_words r) ≡ false)
    × (exceeds port_widths (ports_words p) ≡ false)
unfolding within_widths
within_parts a r p e =
    let at = exceeds attribute_widths (attributes_words a) in
    let rs = exceeds register_widths (registers_words r) in
    let ps = exceeds port_widths (ports_words p) in
    let q = both_true (not at && not rs) (not ps) e in
    let o = both_true (not at) (not rs) q.0 in
    (not-true at o.0, not-true rs o.1, not-true ps q.1)

-- ---- words with their widths

-- a width and a word
abbrev Sized : Type 0
Sized = ℕ × ℕ

abbrev Fits : Sized → Type 0
Fits q = q.1 < 2 ^ q.0

data All : List Sized → Type 0 where
  none_left : All []
  one_more_lem : {q : Sized} {qs : List Sized} → Fits q → All qs → All (q ∷ qs)

-- the words of a list under one width
abbrev under : (w : ℕ) → List ℕ → List Sized
under w [] = []
under w (x ∷ xs) = (w, x) ∷ under w xs

-- the widths of a table and the words beside them
abbrev beside : (widths words : List ℕ) → List Sized
beside [] xs = []
beside (w ∷ ws) [] = []
beside (w ∷ ws) (x ∷ xs) = (w, x) ∷ beside ws xs

-- what stands at a place; past the end a word of no bits
abbrev at : List Sized → ℕ → Sized
at [] i = (0, 0)
at (q ∷ qs) zero = q
at (q ∷ qs) (suc i) = at qs i

abbrev picked : List Sized → List ℕ → List Sized
picked qs [] = []
picked qs (i ∷ is) = at qs i ∷ picked qs is

all_at : {qs : List Sized} → All qs → (i : ℕ) → Fits (at qs i)
all_at none_left i = lit< tt
all_at (one_more_lem h l) zero = h
all_at (one_more_lem h l) (suc i) = all_at l i

-- what holds of all holds of those that are picked
all_picked : (qs : List Sized) (is : List ℕ) → All qs → All (picked qs is)
all_picked qs [] l = none_left
all_picked qs (i ∷ is) l = one_more_lem (all_at l i) (all_picked qs is l)

joined_all : (ps : List Sized) {qs : List Sized} → All ps → All qs → All (ps ++ qs)
joined_all [] l m = m
joined_all (p ∷ ps) (one_more_lem h l) m = one_more_lem h (joined_all ps l m)

parted_all : (ps : List Sized) {qs : List Sized} → All (ps ++ qs) → All ps × All qs
parted_all [] l = (none_left, l)
parted_all (p ∷ ps) (one_more_lem h l) = let q = parted_all ps l in (one_more_lem h q.0, q.1)

fit_all : {widths words : List ℕ} → Fit widths words → All (beside widths words)
fit_all none = none_left
fit_all (more h f) = one_more_lem h (fit_all f)

all_fit : (widths words : List ℕ) → length widths ≡ length words → All (beside widths words) → Fit widths words
all_fit [] [] e l = none
all_fit [] (x ∷ xs) e l = absurd (omega arith)
all_fit (w ∷ ws) [] e l = absurd (omega arith)
all_fit (w ∷ ws) (x ∷ xs) e (one_more_lem h l) = more h (all_fit ws xs (omega arith) l)

-- ---- words joined by `or`

or_below : (n a b : ℕ) → bit_or a b < n → (a < n) × (b < n)
or_below n a b h =
    (omega (arith, or_add_and a b, and_le_r a b, h), omega (arith, or_add_and a b, and_le_l a b, h))

abbrev ors : ℕ → List ℕ → ℕ
ors x [] = x
ors x (y ∷ ys) = ors (bit_or x y) ys

ors_below : (w x : ℕ) (ys : List ℕ) → ors x ys < 2 ^ w → (x < 2 ^ w) × All (under w ys)
ors_below w x [] h = (h, none_left)
ors_below w x (y ∷ ys) h =
    let q = ors_below w (bit_or x y) ys h in
    let p = or_below (2 ^ w) x y q.0 in (p.0, one_more_lem p.1 q.1)

below_ors : (w x : ℕ) (ys : List ℕ) → x < 2 ^ w → All (under w ys) → ors x ys < 2 ^ w
below_ors w x [] h l = h
below_ors w x (y ∷ ys) h (one_more_lem k l) = below_ors w (bit_or x y) ys (or_lt w x y h k) l

-- ---- level after level, each joined with what is left of those before it, and shifted down to the next

abbrev Level : Type 0
Level = ℕ × List ℕ

abbrev gathered : List Level → (x : ℕ) → ℕ
gathered [] x = x
gathered (l ∷ ls) x = gathered ls (ors x l.1 / 2 ^ l.0)

-- the width of a level: what is shifted away from it on
abbrev width : List Level → ℕ
width [] = 0
width (l ∷ ls) = l.0 + width ls

abbrev sized : List Level → List Sized
sized [] = []
sized (l ∷ ls) = under (width (l ∷ ls)) l.1 ++ sized ls

-- a word shifted down by k bits is below 2 ^ v exactly where it is below 2 ^ (k + v)
shift_down : (k v n : ℕ) → n / 2 ^ k < 2 ^ v → n < 2 ^ (k + v)
shift_down k v n h = rw (add_comm k v, pow-add 2 v k) ((div-lt_iff_lt-mul (pow_pos k)).0 h)

shift_up : (k v n : ℕ) → n < 2 ^ (k + v) → n / 2 ^ k < 2 ^ v
shift_up k v n h = (div-lt_iff_lt-mul (pow_pos k)).1 (subst (λ (m : ℕ). n < m) (ap (λ (e : ℕ). 2 ^ e) (add_comm k v) ∙ pow-add 2 v k) h)

nothing_left : (ls : List Level) (x : ℕ) → gathered ls x < 1 → (x < 2 ^ width ls) × All (sized ls)
nothing_left [] x h = (h, none_left)
nothing_left (l ∷ ls) x h =
    let q = nothing_left ls (ors x l.1 / 2 ^ l.0) h in
    let p = ors_below (width (l ∷ ls)) x l.1 (shift_down l.0 (width ls) (ors x l.1) q.0) in
    (p.0, joined_all (under (width (l ∷ ls)) l.1) p.1 q.1)

leaves_nothing : (ls : List Level) (x : ℕ) → x < 2 ^ width ls → All (sized ls) → gathered ls x < 1
leaves_nothing [] x h m = h
leaves_nothing (l ∷ ls) x h m =
    let p = parted_all (under (width (l ∷ ls)) l.1) m in
    leaves_nothing ls (ors x l.1 / 2 ^ l.0)
    (shift_up l.0 (width ls) (ors x l.1) (below_ors (width (l ∷ ls)) x l.1 h p.0))
    p.1

-- ---- a slice's words, and a mark of two bits

-- where each word of the tables, and the mark, stands among the levels; and where each of the levels stands among the tables
among_levels : List ℕ
among_levels =
    26 ∷ 27 ∷ 28 ∷ 29 ∷ 32 ∷ 33 ∷ 34 ∷ 35 ∷ 36 ∷ 37 ∷ 38 ∷ 39 ∷ 40 ∷ 41 ∷ 42 ∷ 43 ∷ 44 ∷ 45 ∷ 0 ∷ 1 ∷ 2 ∷ 30 ∷ 7 ∷ 8 ∷ 13 ∷ 14 ∷ 3 ∷ 10 ∷ 11 ∷ 6 ∷ 4 ∷ 18 ∷ 22 ∷ 20 ∷ 24 ∷ 46 ∷ 48 ∷ 49 ∷ 50 ∷ 51 ∷ 52 ∷ 9 ∷ 15 ∷ 5 ∷ 12 ∷ 19 ∷ 23 ∷ 21 ∷ 25 ∷ 47 ∷ 16 ∷ 17 ∷ 31 ∷ []

among_tables : List ℕ
among_tables =
    18 ∷ 19 ∷ 20 ∷ 26 ∷ 30 ∷ 43 ∷ 29 ∷ 22 ∷ 23 ∷ 41 ∷ 27 ∷ 28 ∷ 44 ∷ 24 ∷ 25 ∷ 42 ∷ 50 ∷ 51 ∷ 31 ∷ 45 ∷ 33 ∷ 47 ∷ 32 ∷ 46 ∷ 34 ∷ 48 ∷ 0 ∷ 1 ∷ 2 ∷ 3 ∷ 21 ∷ 52 ∷ 4 ∷ 5 ∷ 6 ∷ 7 ∷ 8 ∷ 9 ∷ 10 ∷ 11 ∷ 12 ∷ 13 ∷ 14 ∷ 15 ∷ 16 ∷ 17 ∷ 35 ∷ 49 ∷ 36 ∷ 37 ∷ 38 ∷ 39 ∷ 40 ∷ []

module _ (a : Attributes) (r : Registers) (p : Ports) (mark : ℕ) where
  -- the levels after RND, which is as wide as any
  abbrev levels : List Level
  levels =
      (3, a.pattern ∷ a.mask ∷ r.c ∷ r.p ∷ p.c ∷ [])
      ∷ (15, r.m ∷ [])
      ∷ (3, r.a1 ∷ r.a2 ∷ p.a ∷ [])
      ∷ (9, r.d ∷ r.ad ∷ p.d ∷ [])
      ∷ (5, r.b1 ∷ r.b2 ∷ p.b ∷ [])
      ∷ (3, p.ce ∷ [])
      ∷ (1, p.rst ∷ [])
      ∷ (4, r.opmode ∷ p.opmode ∷ [])
      ∷ (1, r.inmode ∷ p.inmode ∷ [])
      ∷ (1, r.alumode ∷ p.alumode ∷ [])
      ∷ (1, r.carryinsel ∷ p.carryinsel ∷ [])
      ∷ (1, a.areg ∷ a.breg ∷ a.acascreg ∷ a.bcascreg ∷ a.use_simd ∷ mark ∷ [])
      ∷ (
        1,
        a.a_input ∷ a.b_input ∷ a.creg ∷ a.dreg ∷ a.adreg ∷ a.mreg ∷ a.preg
            ∷ a.opmodereg ∷ a.alumodereg ∷ a.inmodereg ∷ a.carryinreg ∷ a.carryinselreg ∷ a.use_mult ∷ a.amultsel
            ∷ r.carryin ∷ p.carryin ∷ r.pd ∷ r.pbd ∷ r.pdpast ∷ r.pbdpast ∷ r.carry ∷ [],
      )
      ∷ []

  abbrev pub excess_of : ℕ
  excess_of = gathered levels a.rnd

  abbrev of_levels : List Sized
  of_levels = (48, a.rnd) ∷ sized levels

  abbrev of_tables : List Sized
  of_tables =
      beside attribute_widths (attributes_words a)
      ++ (beside register_widths (registers_words r) ++ (beside port_widths (ports_words p) ++ ((2, mark) ∷ [])))

  by_tables : picked of_levels among_levels ≡ of_tables
  unfolding among_levels
  by_tables = refl

  by_levels : picked of_tables among_tables ≡ of_levels
  unfolding among_tables
  by_levels = refl

  within_tables : All of_tables → (within_widths a r p && ltb mark 4) ≡ true
  unfolding within_widths
  within_tables l =
      let l1 = parted_all (beside attribute_widths (attributes_words a)) l in
      let l2 = parted_all (beside register_widths (registers_words r)) l1.1 in
      let l3 = parted_all (beside port_widths (ports_words p)) l2.1 in
      rw (
        fit_within (all_fit attribute_widths (attributes_words a) refl l1.0),
        fit_within (all_fit register_widths (registers_words r) refl l2.0),
        fit_within (all_fit port_widths (ports_words p) refl l3.0),
      )
      (lt-ltb mark 4 (all_at l3.1 0))

  tables_within : (within_widths a r p && ltb mark 4) ≡ true → All of_tables
  tables_within e =
      let q = both_true (within_widths a r p) (ltb mark 4) e in
      let t = within_parts a r p q.0 in
      joined_all (beside attribute_widths (attributes_words a)) (fit_all (attributes_fit (attributes_words a) t.0))
      (joined_all (beside register_widths (registers_words r)) (fit_all (registers_fit (registers_words r) t.1))
      (joined_all (beside port_widths (ports_words p)) (fit_all (ports_fit (ports_words p) t.2))
      (one_more_lem (ltb-true mark 4 q.1) none_left)))

  pub excess_exact : eqb excess_of 0 ≡ (within_widths a r p && ltb mark 4)
  excess_exact =
      same_test (eqb excess_of 0) (within_widths a r p && ltb mark 4)
      (λ e.
      let zero_left : excess_of ≡ 0 = eqb-true excess_of 0 e in
      let q = nothing_left levels a.rnd (omega arith) in
      within_tables (subst All by_tables (all_picked of_levels among_levels (one_more_lem q.0 q.1))))
      (λ e.
      let l = subst All by_levels (all_picked of_tables among_tables (tables_within e)) in
      let m = parted_all ((48, a.rnd) ∷ []) l in
      let none_over : excess_of < 1 = leaves_nothing levels a.rnd (all_at l 0) m.1 in
      eq-eqb excess_of 0 (omega arith))
