-- Wide sums (02, Ask 7). A stack of neighbouring slices that add A:B and C, each with PREG 1: the lowest is fed the lowest 48 bits of two
-- numbers in a clock, each above it the next 48 a clock later, and takes the carry of the one below by CARRYINSEL 2. Each shows its 48 bits
-- of the exact sum in the clock after it was fed. Proved up the stack; two slices are an instance. Whatever the registers held before,
-- whatever the other slices do, and whatever else the ports hold. Assumes nothing.
use Prim.Native.Nat.{ℕ, zero, suc, ◌+◌, ◌-◌, ◌*◌, ◌/◌, ◌%◌, ◌^◌, ◌<◌}
use mathlib.Core.Path.{◌≡◌, sym, ap, ap₂, subst, subst⁻¹, ◌∙◌}
use mathlib.Core.List.{List}
use native.Mathlib.Nat.{add_comm, div-one, mod-eq_of_lt, mul_comm, mul-suc, mod-lt, div-add-mod', mul-add-div_right, div-div-eq-div-mul, div-lt_iff_lt-mul, le_of_lt}
use native.Mathlib.Omega.{arith}
use lib.Arith.{mod-mul}
use lib.Dec.{lit<}
use lib.ListN.{get_or}
use lib.Pow.{pow_pos, pow-add, field, mod-mod-pow}
use Rattle.records.specs.declared.Registers.{Registers}
use Rattle.records.specs.declared.Ports.{Ports}
use Rattle.records.specs.declared.Outputs.{Outputs}
use Rattle.records.specs.Records.{register_words, output_words, registers_of}
use Rattle.slice.specs.Slice.{slice_operands, slice_next}
use Rattle.slice.proofs.Adding.{Adder, Given, adds, cin_by_0, cin_by_2}
use Rattle.slice.proofs.Registered.{registered_outputs}
use Rattle.column.specs.Refusals.{accepted}
use Rattle.column.specs.Calls.{Clocked}
use Rattle.column.specs.Column.{stretch, attributes_at, registers_at, ports_at, cascade_into, shown_at, next_at, column_shown, column_next, after}
use Rattle.column.proofs.Stacks.{stretch_stacked}
use Rattle.column.proofs.Edges.{next_length, shown_length}
use Rattle.column.proofs.Answers.{accepted_leaves}
use Rattle.column.proofs.Before.{carry_is_register}

-- ---- a sum by pieces of 48 bits

-- 48 bits of n, above 48 · i others
abbrev pub piece : (i n : ℕ) → ℕ
piece i n = n / 2 ^ (48 * i) % 2 ^ 48

-- what the 48 · i lowest bits of u and v carry into the next
abbrev pub carry_into : (i u v : ℕ) → ℕ
carry_into i u v = (u % 2 ^ (48 * i) + v % 2 ^ (48 * i)) / 2 ^ (48 * i)

module _ (w u v : ℕ) (some : 0 < w) where
  -- of any w: what is left of a sum above w, by what is left of its numbers
  above : (u + v) / w ≡ u / w + v / w + (u % w + v % w) / w
  above =
      let parts : u + v ≡ (u / w + v / w) * w + (u % w + v % w) = omega (arith, div-add-mod' u w, div-add-mod' v w) in
      ap (λ (n : ℕ). n / w) parts ∙ mul-add-div_right some (u / w + v / w) (u % w + v % w)

  carries_one : (u % w + v % w) / w < 2
  carries_one = (div-lt_iff_lt-mul some).1 (omega (arith, mod-lt u some, mod-lt v some))

  pieces_add : (u / w % 2 ^ 48 + v / w % 2 ^ 48 + (u % w + v % w) / w) % 2 ^ 48 ≡ (u + v) / w % 2 ^ 48
  pieces_add = omega (arith, above)

  pieces_carry : (u / w % 2 ^ 48 + v / w % 2 ^ 48 + (u % w + v % w) / w) / 2 ^ 48 ≡ (u % (2 ^ 48 * w) + v % (2 ^ 48 * w)) / (2 ^ 48 * w)
  pieces_carry =
      let x = u / w % 2 ^ 48 + v / w % 2 ^ 48 in
      let y = u % w + v % w in
      let parts : u / w % 2 ^ 48 * w + u % w + (v / w % 2 ^ 48 * w + v % w) ≡ x * w + y = omega arith in
      sym
      (ap₂ (λ (a b : ℕ). (a + b) / (2 ^ 48 * w)) (mod-mul u (pow_pos 48) some) (mod-mul v (pow_pos 48) some)
      ∙ ap₂ (λ (n m : ℕ). n / m) parts (mul_comm (2 ^ 48) w)
      ∙ sym (div-div-eq-div-mul (x * w + y) w (2 ^ 48))
      ∙ ap (λ (n : ℕ). n / 2 ^ 48) (mul-add-div_right some x y))

-- 48 · (i + 1) bits are 48 more
more_bits : (i : ℕ) → 2 ^ (48 * suc i) ≡ 2 ^ 48 * 2 ^ (48 * i)
more_bits i = ap (λ (n : ℕ). 2 ^ n) (mul-suc 48 i ∙ add_comm (48 * i) 48) ∙ pow-add 2 48 (48 * i)

module _ (i u v : ℕ) where
  piece_sum : (piece i u + piece i v + carry_into i u v) % 2 ^ 48 ≡ piece i (u + v)
  piece_sum = pieces_add (2 ^ (48 * i)) u v (pow_pos (48 * i))

  piece_carry : (piece i u + piece i v + carry_into i u v) / 2 ^ 48 ≡ carry_into (suc i) u v
  piece_carry =
      pieces_carry (2 ^ (48 * i)) u v (pow_pos (48 * i)) ∙ ap (λ (w : ℕ). (u % w + v % w) / w) (sym (more_bits i))

  carry_one : carry_into i u v < 2
  carry_one = carries_one (2 ^ (48 * i)) u v (pow_pos (48 * i))

nothing_below : (u v : ℕ) → carry_into 0 u v ≡ 0
nothing_below u v = omega arith

-- ---- the stack

-- i above a slice, or i clocks after a clock
abbrev pub up : (from i : ℕ) → ℕ
up from zero = from
up from (suc i) = suc (up from i)

-- "CARRYINSEL 0 and CARRYIN 0" in the lowest slice, "CARRYINSEL 2" in each above it
abbrev pub TakesCarry : (i : ℕ) → Ports → Type 0
TakesCarry zero p = (p.carryinsel ≡ 0) × (p.carryin ≡ 0)
TakesCarry (suc i) p = p.carryinsel ≡ 2

-- n slices of a column from slice base up, the lowest fed in clock t; u and v are the numbers, ps are the ports of each clock
pub record Stack (count : ℕ) (at : List ℕ) (ps : ℕ → List ℕ) (t base n u v : ℕ) : Type 0 where
  pub there : (i : ℕ) → i < n → up base i < count
  pub adders : (i : ℕ) → i < n → Adder (attributes_at at (up base i))
  pub fed : (i : ℕ) → i < n → Given (piece i u) (piece i v) (ports_at (ps (up t i)) (up base i))
  pub takes : (i : ℕ) → i < n → TakesCarry i (ports_at (ps (up t i)) (up base i))

module _ (count : ℕ) (at rs : List ℕ) (ps : ℕ → List ℕ) where
  -- slice k's registers before clock t
  abbrev pub held : (t k : ℕ) → Registers
  held t k = registers_at (after count at rs ps t) k

  -- a clock of the column is a clock of slice k
  clocked : (t k : ℕ) → k < count
      → held (suc t) k ≡ slice_next (attributes_at at k) (held t k) (ports_at (ps t) k) (cascade_into at (after count at rs ps t) (ps t) k)
  unfolding after column_next next_at
  clocked t k h =
      ap registers_of (stretch_stacked (next_at at (after count at rs ps t) (ps t)) register_words (next_length at (after count at rs ps t) (ps t)) k count h)

  module _ (t base n u v : ℕ) (stack : Stack count at ps t base n u v) where
    -- after the clock in which it was fed, a slice holds its piece of the sum, and the carry into the next
    abbrev Holds : (i : ℕ) → Type 0
    Holds i = ((held (suc (up t i)) (up base i)).p ≡ piece i (u + v)) × ((held (suc (up t i)) (up base i)).carry ≡ carry_into (suc i) u v)

    -- so it is once the carry from below is CIN
    holds_by : (i : ℕ) (h : i < n)
        → (slice_operands (attributes_at at (up base i)) (held (up t i) (up base i)) (ports_at (ps (up t i)) (up base i))
        (cascade_into at (after count at rs ps (up t i)) (ps (up t i)) (up base i))).cin
        ≡ carry_into i u v
        → Holds i
    holds_by i h cin =
        let k = up base i in
        let now = up t i in
        let next = clocked now k (stack.there i h) in
        let sums =
        adds (attributes_at at k) (held now k) (ports_at (ps now) k) (cascade_into at (after count at rs ps now) (ps now) k) (piece i u) (piece i v)
        (stack.adders i h) (stack.fed i h) (mod-lt (u / 2 ^ (48 * i)) (pow_pos 48)) (mod-lt (v / 2 ^ (48 * i)) (pow_pos 48))
        (subst⁻¹ (λ (c : ℕ). c < 2) cin (carry_one i u v)) in (
          ap (λ (r : Registers). r.p) next ∙ sums.0 ∙ ap (λ (c : ℕ). (piece i u + piece i v + c) % 2 ^ 48) cin ∙ piece_sum i u v,
          ap (λ (r : Registers). r.carry) next ∙ sums.1 ∙ ap (λ (c : ℕ). (piece i u + piece i v + c) / 2 ^ 48) cin ∙ piece_carry i u v,
        )

    pub stack_holds : (i : ℕ) → i < n → Holds i
    stack_holds zero h =
        holds_by 0 h (cin_by_0 _ _ _ _ _ _ (stack.adders 0 h) (stack.fed 0 h) (stack.takes 0 h).0 (stack.takes 0 h).1 ∙ sym (nothing_below u v))
    stack_holds (suc i) h =
        let below = le_of_lt h in
        holds_by (suc i) h
        (cin_by_2 _ _ _ _ _ _ (stack.adders (suc i) h) (stack.fed (suc i) h) (stack.takes (suc i) h)
        ∙ carry_is_register at (after count at rs ps (up t (suc i))) (ps (up t (suc i))) (up base i) (stack.adders i below).preg
        ∙ (stack_holds i below).1)

    -- and in the next clock it shows that piece
    pub stack_shows : (i : ℕ) → i < n
        → get_or (shown_at at (after count at rs ps (suc (up t i))) (ps (suc (up t i))) (up base i)) 0 0 ≡ piece i (u + v)
    unfolding shown_at
    stack_shows i h =
        ap (λ (o : Outputs). o.p) (registered_outputs _ _ _ _ (stack.adders i h).preg) ∙ (stack_holds i h).0

-- the pieces of n slices are those of the sum modulo 2 ^ (48 · n)
pub piece_modulo : (n i s : ℕ) → i < n → piece i (s % 2 ^ (48 * n)) ≡ piece i s
piece_modulo n i s h =
    let above = 48 * (n - i - 1) in
    let bits : 48 * n ≡ above + 48 + 48 * i = omega arith in
    ap (λ (e : ℕ). s % 2 ^ e / 2 ^ (48 * i) % 2 ^ 48) bits
    ∙ ap (λ (x : ℕ). x % 2 ^ 48) (field s (above + 48) (48 * i))
    ∙ mod-mod-pow (s / 2 ^ (48 * i)) above 48

-- ---- two slices

-- slices k and k + 1 of a column: "PREG 1 and no other registers, both in that setting and adding A:B and C, inputs direct, enabled and not
-- reset"; "fed the low halves below in clock t with CARRYINSEL 0 and CARRYIN 0, and the high halves above in t + 1 with CARRYINSEL 2". ps and
-- ps' are the ports of those two clocks
pub record Halves (count : ℕ) (at ps ps' : List ℕ) (k u v : ℕ) : Type 0 where
  pub there : suc k < count
  pub lower : Adder (attributes_at at k)
  pub upper : Adder (attributes_at at (suc k))
  pub low : Given (u % 2 ^ 48) (v % 2 ^ 48) (ports_at ps k)
  pub low_cin : ((ports_at ps k).carryinsel ≡ 0) × ((ports_at ps k).carryin ≡ 0)
  pub high : Given (u / 2 ^ 48) (v / 2 ^ 48) (ports_at ps' (suc k))
  pub high_cin : (ports_at ps' (suc k)).carryinsel ≡ 2

-- the ports of three clocks
abbrev in_turn : (ps ps' ps'' : List ℕ) → ℕ → List ℕ
in_turn ps ps' ps'' zero = ps
in_turn ps ps' ps'' (suc zero) = ps'
in_turn ps ps' ps'' (suc (suc t)) = ps''

module _ (count : ℕ) (at ps ps' ps'' : List ℕ) (k u v : ℕ) (hu : u < 2 ^ 96) (hv : v < 2 ^ 96) (halves : Halves count at ps ps' k u v) where
  low_half : (n : ℕ) → n % 2 ^ 48 ≡ piece 0 n
  low_half n = ap (λ (m : ℕ). m % 2 ^ 48) (sym (div-one n))

  high_half : (n : ℕ) → n < 2 ^ 96 → n / 2 ^ 48 ≡ piece 1 n
  high_half n h = sym (mod-eq_of_lt (omega arith))

  two_stack : Stack count at (in_turn ps ps' ps'') 0 k 2 u v
  two_stack =
      record {
        there = λ i h. each (λ i. up k i < count) (le_of_lt halves.there) halves.there i h;
        adders = λ i h. each (λ i. Adder (attributes_at at (up k i))) halves.lower halves.upper i h;
        fed =
            λ i h. each (λ i. Given (piece i u) (piece i v) (ports_at (in_turn ps ps' ps'' (up 0 i)) (up k i)))
            (given_of (low_half u) (low_half v) halves.low)
            (given_of (high_half u hu) (high_half v hv) halves.high) i h;
        takes = λ i h. each (λ i. TakesCarry i (ports_at (in_turn ps ps' ps'' (up 0 i)) (up k i))) halves.low_cin halves.high_cin i h;
      }
    where
      each : (P : ℕ → Type 0) → P 0 → P 1 → (i : ℕ) → i < 2 → P i
      each P z o zero h = z
      each P z o (suc zero) h = o
      each P z o (suc (suc i)) h = absurd (omega arith)

      given_of : {m n m' n' : ℕ} {p : Ports} → m ≡ m' → n ≡ n' → Given m n p → Given m' n' p
      given_of {m} {n} {m'} {n'} {p} e f g = subst (λ (x : ℕ). Given x n' p) e (subst (λ (y : ℕ). Given m y p) f g)

  -- the P that slice j shows
  shown_word : (rs ps : List ℕ) (j : ℕ) → j < count
      → get_or (stretch output_words j (column_shown count at rs ps)) 0 0 ≡ get_or (shown_at at rs ps j) 0 0
  unfolding column_shown
  shown_word rs ps j h = ap (λ (ws : List ℕ). get_or ws 0 0) (stretch_stacked (shown_at at rs ps) output_words (shown_length at rs ps) j count h)

  -- three accepted clocks, one after the other: what the second shows, and the third
  module _ (rs rs₁ rs₂ rs₃ os₀ os₁ os₂ shown₀ shown₁ shown₂ : List ℕ) (first : Clocked count at rs ps os₀ accepted rs₁ shown₀)
      (second : Clocked count at rs₁ ps' os₁ accepted rs₂ shown₁) (third : Clocked count at rs₂ ps'' os₂ accepted rs₃ shown₂) where
    pub wide_sum : (get_or (stretch output_words k shown₁) 0 0 ≡ (u + v) % 2 ^ 96 % 2 ^ 48)
        × (get_or (stretch output_words (suc k) shown₂) 0 0 ≡ (u + v) % 2 ^ 96 / 2 ^ 48)
    unfolding after
    wide_sum =
        let turns = in_turn ps ps' ps'' in
        let after-1 : rs₁ ≡ after count at rs turns 1 = (accepted_leaves first).0 in
        let after-2 : rs₂ ≡ after count at rs turns 2 = (accepted_leaves second).0 ∙ ap (λ (xs : List ℕ). column_next count at xs ps') after-1 in
        let shows = stack_shows count at rs turns 0 k 2 u v two_stack in (
          ap (λ (ws : List ℕ). get_or (stretch output_words k ws) 0 0) (accepted_leaves second).1
              ∙ ap (λ (xs : List ℕ). get_or (stretch output_words k (column_shown count at xs ps')) 0 0) after-1
              ∙ shown_word (after count at rs turns 1) ps' k (le_of_lt halves.there)
              ∙ shows 0 (lit< tt) ∙ sym (mod-mod-pow (u + v) 48 48 ∙ low_half (u + v)),
          ap (λ (ws : List ℕ). get_or (stretch output_words (suc k) ws) 0 0) (accepted_leaves third).1
              ∙ ap (λ (xs : List ℕ). get_or (stretch output_words (suc k) (column_shown count at xs ps'')) 0 0) after-2
              ∙ shown_word (after count at rs turns 2) ps'' (suc k) halves.there
              ∙ shows 1 (lit< tt) ∙ sym (field (u + v) 48 48),
        )
