-- What is printed of an event: how long it can be, and how the lines of a clock are put one after the other. Assumes nothing.
use mathlib.Core.Path.{◌≡◌, refl, sym, ap, ◌∙◌}
use mathlib.Core.Bool.{Bool, true, false, cond}
use mathlib.Core.List.{List, [], ◌∷◌, ◌++◌, append_assoc, append-nil}
use Prim.Native.Nat.{ℕ, zero, suc, ◌+◌, ◌*◌, ◌-◌, ◌<◌, ◌≤◌}
use native.Mathlib.Nat.{mul-suc, mul-le-mul_left}
use native.Mathlib.Numerals.{add-one}
use native.Mathlib.Omega.{arith}
use lib.ListN.{length, take, drop, length-append, length-take}
use lib.Dec.{leb}
use borrow.Author.Tests.{le-leb, leb-true}
use Rattle.word.proofs.Laws.{both_true}
use Rattle.records.specs.Records.{output_words}
use Rattle.column.specs.Column.{stretch}
use lib.Seq.{drop-append-add}
use Rattle.std.proofs.Common.{take_at, drop-drop, length-drop}
use Rattle.text.specs.Bytes.{field_room}
use Rattle.text.specs.Printed.{printed, room_for, line_within, Put}
use Rattle.text.proofs.Decimal.{printed_length, line_fits}
use Rattle.text.proofs.Paste.{put_more, put_length}
use Rattle.event.specs.declared.Event.{Event}
use Rattle.event.specs.declared.Event.TheVariants.{Nothing, Clocked, Matched, Refused, Ended}
use Rattle.event.specs.Letters.{letter_o, letter_m, letter_r, letter_e}
use Rattle.event.specs.Lines.{Line, line_with, output_line, listed, printed_lines}
use Rattle.event.specs.Events.{bytes_of, output_room, line_room, clock_fits, bytes_within}

-- ---- lines one after the other

pub printed_append : (xs ys : List Line) → printed_lines (xs ++ ys) ≡ printed_lines xs ++ printed_lines ys
printed_append [] ys = refl
printed_append (x ∷ xs) ys =
    ap (λ (bs : List ℕ). printed x.letter x.numbers ++ bs) (printed_append xs ys)
    ∙ sym (append_assoc (printed x.letter x.numbers) (printed_lines xs) (printed_lines ys))

-- one line more
printed_more : (f : ℕ → Line) (n : ℕ) → printed_lines (listed f (suc n)) ≡ printed_lines (listed f n) ++ printed (f n).letter (f n).numbers
printed_more f n =
    printed_append (listed f n) (f n ∷ [])
    ∙ ap (λ (bs : List ℕ). printed_lines (listed f n) ++ bs) (append-nil (printed (f n).letter (f n).numbers))

-- one line
printed_one : (letter : ℕ) (ns : List ℕ) → printed_lines (line_with letter ns ∷ []) ≡ printed letter ns
printed_one letter ns = append-nil (printed letter ns)

-- ---- lengths

-- no `O` line is longer than its numbers allow
output_line_length : (clock : ℕ) (os : List ℕ) (k : ℕ) → length (printed letter_o (output_line clock os k).numbers) ≤ output_room
output_line_length clock os k =
    omega (arith, printed_length letter_o (clock ∷ k ∷ stretch output_words k os), length-take output_words (drop (output_words * k) os))

-- the lines of some slices, in whatever order
listed_most : (f : ℕ → Line) (m : ℕ) → ((k : ℕ) → length (printed (f k).letter (f k).numbers) ≤ m) → (n : ℕ) → length (printed_lines (listed f n)) ≤ m * n
listed_most f m each zero = omega arith
listed_most f m each (suc n) = rw (printed_more, length-append, mul-suc) (omega (arith, listed_most f m each n, each n))

clock_length : (clock : ℕ) (os : List ℕ) (n : ℕ) → length (printed_lines (listed (output_line clock os) n)) ≤ output_room * n
clock_length clock os n = listed_most (output_line clock os) output_room (output_line_length clock os) n

-- within room for those of n
lines_within : (f : ℕ → Line) → ((k : ℕ) → length (printed (f k).letter (f k).numbers) ≤ output_room) → (count n : ℕ) → count ≤ n
    → length (printed_lines (listed f count)) ≤ output_room * n + line_room
lines_within f each count n h = omega (arith, listed_most f output_room each count, mul-le-mul_left output_room h)

-- a line of as many as three numbers
line_length : (letter : ℕ) (ns : List ℕ) → length ns ≤ 3 → (n : ℕ) → length (printed_lines (line_with letter ns ∷ [])) ≤ output_room * n + line_room
line_length letter ns few n = rw (printed_one letter ns) (omega (arith, printed_length letter ns))

-- room for the lines of n slices, and a line, is room for every event of as many
pub event_length : (e : Event) (count : ℕ) (os : List ℕ) (n : ℕ) → count ≤ n → length (bytes_of e count os) ≤ output_room * n + line_room
event_length Nothing count os n h = omega arith
event_length (Clocked clock) count os n h = lines_within _ (λ k. output_line_length clock os _) count n h
event_length (Matched clock) count os n h = line_length letter_m (clock ∷ []) (omega arith) n
event_length (Refused number clocks place) count os n h = line_length letter_r (number ∷ clocks ∷ place ∷ []) (omega arith) n
event_length (Ended clocks) count os n h = line_length letter_e (clocks ∷ []) (omega arith) n

-- ---- what is printed where there is room

-- where the outputs are lent, and there is room for the lines of as many slices and a line
pub event_fits_lem : (e : Event) (count : ℕ) (os : List ℕ) (at : ℕ) (out : List ℕ) → output_words * count ≤ length os
    → at + output_room * count + line_room ≤ length out → bytes_within e count os at out ≡ bytes_of e count os
unfolding bytes_within
event_fits_lem Nothing count os at out h room = refl
event_fits_lem (Clocked clock) count os at out h room =
    rw (le-leb (output_words * count) (length os) h, le-leb (output_room * count) (length out - at) (omega arith))
event_fits_lem (Matched clock) count os at out h room = rw (le-leb (field_room * 2) (length out - at) (omega arith))
event_fits_lem (Refused number clocks place) count os at out h room = rw (le-leb (field_room * 4) (length out - at) (omega arith))
event_fits_lem (Ended clocks) count os at out h room = rw (le-leb (field_room * 2) (length out - at) (omega arith))

-- what is printed lies within the lent bytes
line_within_lem : (letter : ℕ) (ns : List ℕ) (at : ℕ) (out : List ℕ)
    → length (cond (room_for (length ns) at out) (printed_lines (line_with letter ns ∷ [])) []) ≤ length out - at
line_within_lem letter ns at out = rw (printed_one letter ns) (go (leb (field_room * (length ns + 1)) (length out - at)) refl)
  where
    go : (t : Bool) → leb (field_room * (length ns + 1)) (length out - at) ≡ t → length (cond t (printed letter ns) []) ≤ length out - at
    go true e = omega (arith, printed_length letter ns, leb-true (field_room * (length ns + 1)) (length out - at) e)
    go false e = omega arith

clock_within : (bs : List ℕ) (count : ℕ) (os : List ℕ) (at : ℕ) (out : List ℕ) → length bs ≤ output_room * count
    → length (cond (clock_fits count os at out) bs []) ≤ length out - at
clock_within bs count os at out h = go (clock_fits count os at out) refl
  where
    go : (t : Bool) → clock_fits count os at out ≡ t → length (cond t bs []) ≤ length out - at
    go true e =
        let room = (both_true (leb (output_words * count) (length os)) (leb (output_room * count) (length out - at)) e).1 in
        omega (arith, leb-true (output_room * count) (length out - at) room)
    go false e = omega arith

pub within_room : (e : Event) (count : ℕ) (os : List ℕ) (at : ℕ) (out : List ℕ) → length (bytes_within e count os at out) ≤ length out - at
unfolding bytes_within
within_room Nothing count os at out = omega arith
within_room (Clocked clock) count os at out = clock_within _ count os at out (listed_most _ output_room (λ k. output_line_length clock os _) count)
within_room (Matched clock) count os at out = line_within_lem letter_m (clock ∷ []) at out
within_room (Refused number clocks place) count os at out = line_within_lem letter_r (number ∷ clocks ∷ place ∷ []) at out
within_room (Ended clocks) count os at out = line_within_lem letter_e (clocks ∷ []) at out

-- a chunk of what is left of the outputs is the stretch of the slice that is due, and what follows it is left for the next
pub chunk_first : (k : ℕ) (os rest shown more : List ℕ) → rest ≡ drop (output_words * k) os → rest ≡ shown ++ more → length shown ≡ output_words
    → (shown ≡ stretch output_words k os) × (more ≡ drop (output_words * (k + 1)) os)
chunk_first k os rest shown more e f l =
    let both : shown ++ more ≡ drop (output_words * k) os = sym f ∙ e in
    let next : output_words * k + output_words ≡ output_words * (k + 1) = omega arith in
    let whole : output_words ≡ length shown + 0 = omega (arith, l) in
    let after : drop output_words (shown ++ more) ≡ more = ap (λ (n : ℕ). drop n (shown ++ more)) whole ∙ drop-append-add shown more 0 in (
      sym (take_at shown more output_words l) ∙ ap (take output_words) both,
      sym after ∙ ap (drop output_words) both ∙ drop-drop output_words (output_words * k) os ∙ ap (λ (n : ℕ). drop n os) next,
    )

-- and where there is none, all slices are printed
pub chunks_end : (left k count size : ℕ) (os rest : List ℕ) → left + k ≡ count → rest ≡ drop (output_words * k) os → size ≡ output_words
    → output_words * count ≤ length os → (0 < left → length rest < size) → k ≡ count
chunks_end zero k count size os rest e f g lent none = omega arith
chunks_end (suc left) k count size os rest e f g lent none =
    let few : length rest < size = none (omega arith) in
    let much : length rest ≡ length os - output_words * k = ap (λ (ws : List ℕ). length ws) f ∙ length-drop (output_words * k) os in
    omega arith

-- ---- the loop that prints a clock's lines

module _ (clock count at k end : ℕ) (os out₀ out : List ℕ) (so_far : Put at (printed_lines (listed (output_line clock os) k)) out₀ end out) where
  module _ (room : at + output_room * count ≤ length out₀) (most : k ≤ count) where
    so_long : at + length (printed_lines (listed (output_line clock os) k)) ≤ at + output_room * k
    so_long = omega (arith, clock_length clock os k)

    -- the bytes that are lent keep their number
    pub kept_room : length out ≡ length out₀
    kept_room = put_length so_far (omega (arith, so_long, mul-le-mul_left output_room most))

    module _ (turn : k < count) where
      -- there is room for one line more
      line_room_lem : end + output_room ≤ length out
      line_room_lem = omega (arith, so_long, kept_room, so_far.ends, mul-suc output_room k, mul-le-mul_left output_room turn)

      -- which is the slice's own stretch
      pub one_line : (shown : List ℕ) → shown ≡ stretch output_words k os → (r : ℕ) (out' : List ℕ)
          → Put end (line_within letter_o ((clock ∷ k ∷ []) ++ shown) end out) out r out' → Put at (printed_lines (listed (output_line clock os) (k + 1))) out₀ r out'
      one_line shown own r out' p =
          let ns = clock ∷ k ∷ stretch output_words k os in
          let few : length (stretch output_words k os) ≤ output_words = omega (arith, length-take output_words (drop (output_words * k) os)) in
          let fits : line_within letter_o ns end out ≡ printed letter_o ns = line_fits letter_o ns end out (omega (arith, line_room_lem)) in
          rw (ap (λ (n : ℕ). printed_lines (listed (output_line clock os) n)) (add-one k), printed_more (output_line clock os) k)
          (put_more so_far (rw (own, fits) at p) (omega (arith, so_long, mul-le-mul_left output_room most)))

  pub all_slices : k ≡ count → Put at (printed_lines (listed (output_line clock os) count)) out₀ end out
  all_slices e = rw e at so_far
