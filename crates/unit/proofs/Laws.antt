-- Which input a choice shows, that choices keep a bound, and the width of what each part gives. Assumes nothing.
use Rattle.std.proofs.Common.{◌≡◌, ℕ, zero, suc, ◌+◌, ◌-◌, ◌%◌, ◌^◌, ◌<◌, Bool, true, false, cond, eqb, ltb, List, [], ◌∷◌, get_or, pos, ◌+ℤ◌, ◌-ℤ◌, ◌*ℤ◌, refl, mod-lt, zero-lt-suc, arith, lit<, pow_pos}
use lib.Pow.{ones_sub-lt}
use lib.Bits.{bit_and, bit_or, bit_xor, and_lt, or_lt, xor_lt}
use Rattle.word.specs.Word.{signed}
use Rattle.word.proofs.Laws.{word_lt}
use Rattle.unit.specs.Choice.{mux, choose}
use Rattle.unit.specs.Unit.{ones, arithmetic, by_y, compl, logic_rows, unit_result, wrapped_sum, pre_adder, product, load}
use Rattle.unit.specs.Detector.{unmasked, equal, differs, detected}

pub mux_1 : (s x y : ℕ) → (s ≡ 0 → ⊥) → mux s x y ≡ y
mux_1 zero x y f = absurd (f refl)
mux_1 (suc s) x y f = refl

pub mux_lt : (s : ℕ) {x y N : ℕ} → x < N → y < N → mux s x y < N
mux_lt zero h k = h
mux_lt (suc s) h k = k

pub cond_lt : (b : Bool) {x y N : ℕ} → x < N → y < N → cond b x y < N
cond_lt true h k = h
cond_lt false h k = k

pub data Below (N : ℕ) : List ℕ → Type 0 where
  end : Below N []
  and : {x : ℕ} {xs : List ℕ} → x < N → Below N xs → Below N (x ∷ xs)

pub choose_lt : {N : ℕ} {xs : List ℕ} → 0 < N → Below N xs → (s : ℕ) → choose xs s < N
choose_lt some end s = some
choose_lt some (and h b) zero = h
choose_lt some (and h b) (suc s) = choose_lt some b s

-- the select is at no place of the list, counted from n, that may hold anything but d
pub data Off {A : Type 0} (d : A) (s : ℕ) : (n : ℕ) → List A → Type 0 where
  out : {n : ℕ} → Off d s n []
  past : {n : ℕ} {x : A} {xs : List A} → (s ≡ n → ⊥) → Off d s (suc n) xs → Off d s n (x ∷ xs)
  over : {n : ℕ} {xs : List A} → Off d s (suc n) xs → Off d s n (d ∷ xs)

-- so it gets d
pub get_d_off : {A : Type 0} {d : A} {s n : ℕ} {xs : List A} (k : ℕ) → n + k ≡ s → Off d s n xs → get_or xs k d ≡ d
get_d_off k e out = refl
get_d_off zero e (past f off) = absurd (f (omega arith))
get_d_off (suc k) e (past f off) = get_d_off k (omega arith) off
get_d_off zero e (over off) = refl
get_d_off (suc k) e (over off) = get_d_off k (omega arith) off

pub choose_off : {s n : ℕ} {xs : List ℕ} (k : ℕ) → n + k ≡ s → Off 0 s n xs → choose xs k ≡ 0
choose_off k e off = get_d_off k e off

-- ---- widths

pub digit_lt : (n : ℕ) → n % 2 < 2
digit_lt n = mod-lt n (zero-lt-suc 1)

pub arithmetic_lt : (width mode w x y z cin : ℕ) → arithmetic width mode w x y z cin < 2 ^ width
unfolding arithmetic
arithmetic_lt width mode w x y z cin =
    choose_lt (pow_pos width)
    (and (word_lt width (pos (z + w + x + y + cin)))
    (and (word_lt width ((pos (ones width) -ℤ pos z) +ℤ pos (w + x + y + cin)))
    (and (word_lt width (pos (ones width) -ℤ pos (z + w + x + y + cin)))
    (and (word_lt width (pos z -ℤ pos (w + x + y + cin))) end))))
    mode

logic_lt : (mode x y z : ℕ) → x < 2 ^ 48 → z < 2 ^ 48 → logic_rows mode x y z < 2 ^ 48
unfolding logic_rows
logic_lt mode x y z hx hz =
    choose_lt some
    (and (row xor (bar (bit_xor x z))) (and (row (bar (bit_xor x z)) xor) (and (row (bar (bit_xor x z)) xor) (and (row xor (bar (bit_xor x z)))
    (and some (and some (and some (and some
    (and (row (and_lt 48 x z hx hz) (or_lt 48 x z hx hz))
    (and (row (and_lt 48 x (compl z) hx (bar z)) (or_lt 48 x (compl z) hx (bar z)))
    (and (row (bar (bit_and x z)) (bar (bit_or x z)))
    (and (row (or_lt 48 (compl x) z (bar x) hz) (and_lt 48 (compl x) z (bar x) hz)) end))))))))))))
    (mode - 4)
  where
    some : 0 < 2 ^ 48
    some = pow_pos 48

    bar : (a : ℕ) → compl a < 2 ^ 48
    bar a = ones_sub-lt 48 a

    xor : bit_xor x z < 2 ^ 48
    xor = xor_lt 48 x z hx hz

    row : {a b : ℕ} → a < 2 ^ 48 → b < 2 ^ 48 → by_y y a b < 2 ^ 48
    row h k = cond_lt (eqb y 0) h k

pub unit_lt : (mode w x y z cin : ℕ) → unit_result mode w x y z cin < 2 ^ 48
unfolding unit_result
unit_lt mode w x y z cin =
    cond_lt (ltb mode 4) (arithmetic_lt 48 mode w x y z cin)
    (logic_lt mode (x % 2 ^ 48) y (z % 2 ^ 48) (mod-lt x (pow_pos 48)) (mod-lt z (pow_pos 48)))

pub pre_adder_lt : (subtract d a : ℕ) → (pre_adder subtract d a).ad < 2 ^ 27
unfolding pre_adder wrapped_sum
pre_adder_lt subtract d a = mux_lt subtract (word_lt 27 (pos (d + a))) (word_lt 27 (pos d -ℤ pos a))

pub product_lt : (left right : ℕ) → product left right < 2 ^ 45
unfolding product
product_lt left right = word_lt 45 (signed 27 left *ℤ signed 18 right)

pub load_lt : (reset enable : ℕ) {N word input : ℕ} → 0 < N → word < N → input < N → load reset enable word input < N
unfolding load
load_lt reset enable some h k = mux_lt reset (mux_lt enable h k) some

bit_lt : (b : Bool) → cond b 1 0 < 2
bit_lt b = cond_lt b (lit< tt) (lit< tt)

pub pd_lt : (p pattern mask : ℕ) → (detected p pattern mask).pd < 2
unfolding detected
pd_lt p t m = bit_lt (unmasked equal 48 p t m)

pub pbd_lt : (p pattern mask : ℕ) → (detected p pattern mask).pbd < 2
unfolding detected
pbd_lt p t m = bit_lt (unmasked differs 48 p t m)
