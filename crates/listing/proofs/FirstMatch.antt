-- What is printed with a slice in the `N` line is the first match among the lines that are printed without it. Assumes nothing.
use mathlib.Core.Path.{◌≡◌, refl, sym, ap, ◌∙◌}
use mathlib.Core.Bool.{true, false, not}
use mathlib.Core.List.{List, [], ◌∷◌, ◌++◌, append_assoc, append-nil}
use Prim.Native.Nat.{ℕ, suc, ◌+◌, ◌<◌, ◌≤◌}
use native.Mathlib.Nat.{add-zero, zero-add}
use native.Mathlib.Omega.{arith}
use lib.Dec.{eqb}
use lib.ListN.{length, take, set, replicate, length-set, length-replicate}
use borrow.Author.Tests.{ne_eqb, not-true, lt-ltb, le-ltb}
use Rattle.word.proofs.Laws.{both_true}
use Rattle.column.specs.Refusals.{count_fits}
use Rattle.text.specs.Bytes.{newline, most_bytes}
use Rattle.text.specs.Numbers.{line_of}
use Rattle.text.specs.Printed.{printed}
use Rattle.text.proofs.Lines.{take_set, well_short, well_once}
use Rattle.event.specs.Letters.{letter_m, letter_r}
use Rattle.event.specs.Lines.{Line, line_with, printed_lines}
use Rattle.player.specs.declared.Phase.TheVariants.{Head, Settings}
use Rattle.player.specs.declared.Shows.{Shows}
use Rattle.player.specs.declared.Shows.TheVariants.{Outputs, FirstMatch}
use Rattle.player.specs.declared.Player.{Player}
use Rattle.player.specs.Limits.{count_bound}
use Rattle.listing.specs.declared.steps.Step.{Step}
use Rattle.listing.specs.Letters.{letter_n}
use Rattle.listing.specs.Steps.{refusal, begin_step, head_step}
use Rattle.listing.specs.Listing.{Play, leaving, start, Turn, turn_of, line_turn, byte_turn, listing}
use Rattle.listing.specs.Calls.{lent_of}
use Rattle.listing.specs.Matching.{turn_lines, lines_by, lines_from, listing_lines, match_clocks, first_match, unended, HeadLine, headed}
use Rattle.listing.proofs.Pieces.{join_turn}
use Rattle.listing.proofs.Whole.{Bench, pieces_play_the_listing}
use Rattle.listing.proofs.Reading.{Caller, Reads, callers_get_the_listing}
use Rattle.listing.proofs.Found.{listing_lines_lem, stopped_none, found}
use Rattle.listing.proofs.Watching.{line_turn_lem, answers}

-- ---- a text cut in two

play_after : Play → (text : List ℕ) → Play
play_after p [] = p
play_after p (b ∷ bs) = play_after (byte_turn p b).play bs

lines_cut : (p : Play) (front more : List ℕ) → lines_from p (front ++ more) ≡ lines_by p front ++ lines_from (play_after p front) more
unfolding play_after
lines_cut p [] more = refl
lines_cut p (b ∷ bs) more =
    let t = byte_turn p b in
    ap (λ (ls : List Line). turn_lines t ++ ls) (lines_cut t.play bs more)
    ∙ sym (append_assoc (turn_lines t) (lines_by t.play bs) (lines_from (play_after t.play bs) more))

-- ---- the `N` line

-- a play that has read nothing but bytes of its first line, of which so many are held
abbrev reading : (held : ℕ) → (line : List ℕ) → Play
reading held line = record {
  player = record { phase = Head; count = 0; given = 0; clocks = 0; lines = 0; held = held; shows = Outputs };
  attributes = start.attributes;
  registers = start.registers;
  ports = start.ports;
  outputs = start.outputs;
  line = line;
}

-- bytes that join a line of which held bytes are known
abbrev joined : (line : List ℕ) → (held : ℕ) → (bytes : List ℕ) → List ℕ
joined line held [] = line
joined line held (b ∷ bs) = joined (set line held b) (held + 1) bs

joined_length : (line : List ℕ) (held : ℕ) (bs : List ℕ) → length (joined line held bs) ≡ length line
joined_length line held [] = refl
joined_length line held (b ∷ bs) = joined_length (set line held b) (held + 1) bs ∙ length-set line held b

joined_take : (line : List ℕ) (held : ℕ) (bs : List ℕ) → held + length bs ≤ length line
    → take (held + length bs) (joined line held bs) ≡ take held line ++ bs
joined_take line held [] h = rw (add-zero held) (sym (append-nil (take held line)))
joined_take line held (b ∷ bs) h =
    let k : held + suc (length bs) ≡ held + 1 + length bs = omega arith in
    ap (λ (n : ℕ). take n (joined (set line held b) (held + 1) bs)) k
    ∙ joined_take (set line held b) (held + 1) bs (rw length-set (omega arith))
    ∙ ap (λ (xs : List ℕ). xs ++ bs) (take_set line held b (omega arith))
    ∙ append_assoc (take held line) (b ∷ []) bs

-- none of them prints a line
head_joins : (bs more line : List ℕ) (held : ℕ) → unended bs ≡ true → held + length bs ≤ most_bytes
    → lines_from (reading held line) (bs ++ more) ≡ lines_from (reading (held + length bs) (joined line held bs)) more
head_joins [] more line held u h = rw (add-zero held)
head_joins (b ∷ bs) more line held u h =
    let both = both_true (not (eqb b newline)) (unended bs) u in
    let k : held + 1 + length bs ≡ held + suc (length bs) = omega arith in
    let other : held ≡ most_bytes → ⊥ = λ e. omega arith in
    rw (join_turn (reading held line) b refl (not-true (eqb b newline) both.0) (ne_eqb held most_bytes other))
    (head_joins bs more (set line held b) (held + 1) both.1 (omega arith)
    ∙ ap (λ (n : ℕ). lines_from (reading n (joined (set line held b) (held + 1) bs)) more) k)

-- a text's first line, once its newline is read
module _ (line : List ℕ) (rest : List ℕ) (short : length line ≤ most_bytes) (whole : unended line ≡ true) where
  abbrev zeros : List ℕ
  zeros = replicate most_bytes 0

  abbrev bytes : List ℕ
  bytes = joined zeros 0 line

  zeros_length : length zeros ≡ most_bytes
  zeros_length = length-replicate {A = ℕ} most_bytes 0

  bytes_length : length bytes ≡ most_bytes
  bytes_length = joined_length zeros 0 line ∙ zeros_length

  -- the player that has counted it
  abbrev first : Player
  first = record { phase = Head; count = 0; given = 0; clocks = 0; lines = 1; held = 0; shows = Outputs }

  abbrev leaves_head : Step → Turn
  leaves_head s = turn_of (leaving s start.attributes start.registers start.ports start.outputs) bytes

  head_read : (let t = leaves_head (head_step first (line_of letter_n 2 line) (line_of letter_n 1 line)) in
      listing_lines (headed line rest) ≡ turn_lines t ++ lines_from t.play rest)
  unfolding listing_lines
  head_read =
      let n : 0 + length line ≡ length line = zero-add (length line) in
      let taken : take (0 + length line) bytes ≡ line = joined_take zeros 0 line (rw zeros_length (omega arith)) in
      let turned : byte_turn (reading (0 + length line) bytes) newline ≡ line_turn (reading (0 + length line) bytes) = line_turn_lem (reading (0 + length line) bytes) newline refl refl in
      head_joins line (newline ∷ rest) zeros 0 whole (omega arith) ∙ rw (turned, taken)

  -- an `N` line that is refused
  head_refused : (number : ℕ) → head_step first (line_of letter_n 2 line) (line_of letter_n 1 line) ≡ refusal first number 0
      → listing_lines (headed line rest) ≡ line_with letter_r (number ∷ 0 ∷ 0 ∷ []) ∷ []
  head_refused number e =
      let stopped = stopped_none (leaves_head (refusal first number 0)).play rest refl in
      head_read ∙ rw (e, stopped)

-- what is known once an `N` line was read
abbrev begun : (count : ℕ) → Shows → (line : List ℕ) → Play
begun count shows line = record {
  player = record { phase = Settings; count = count; given = 0; clocks = 0; lines = 1; held = 0; shows = shows };
  attributes = start.attributes;
  registers = start.registers;
  ports = start.ports;
  outputs = start.outputs;
  line = line;
}

-- ---- with the field

module _ (count slice : ℕ) (line rest : List ℕ) (h : HeadLine (count ∷ slice ∷ []) line) where
  two_short : length line ≤ most_bytes
  two_short = well_short letter_n 2 line (count ∷ slice ∷ []) h.reads

  two_read : head_step (first line rest two_short h.whole) (line_of letter_n 2 line) (line_of letter_n 1 line)
      ≡ begin_step (first line rest two_short h.whole) count (FirstMatch slice)
  unfolding head_step
  two_read = rw h.reads

  -- "Number 1 is checked as soon as `N` is read"
  pub count_first : count_fits count ≡ false → listing (headed line rest) ≡ printed letter_r (1 ∷ 0 ∷ 0 ∷ [])
  unfolding begin_step
  count_first e =
      listing_lines_lem (headed line rest)
      ∙ ap printed_lines (head_refused line rest two_short h.whole 1 (two_read ∙ rw e))
      ∙ append-nil (printed letter_r (1 ∷ 0 ∷ 0 ∷ []))

  -- "13 for a slice at or above the count, once `N` is read, after 1, place 0"
  pub slice_over : count_fits count ≡ true → count ≤ slice → listing (headed line rest) ≡ printed letter_r (13 ∷ 0 ∷ 0 ∷ [])
  unfolding begin_step
  slice_over e l =
      listing_lines_lem (headed line rest)
      ∙ ap printed_lines (head_refused line rest two_short h.whole 13 (two_read ∙ rw (e, le-ltb slice count l)))
      ∙ append-nil (printed letter_r (13 ∷ 0 ∷ 0 ∷ []))

  watched_from : count_fits count ≡ true → slice < count
      → listing_lines (headed line rest) ≡ lines_from (begun count (FirstMatch slice) (bytes line rest two_short h.whole)) rest
  unfolding begin_step
  watched_from e l = head_read line rest two_short h.whole ∙ rw (two_read, e, lt-ltb slice count l)

-- without it
module _ (count : ℕ) (line rest : List ℕ) (h : HeadLine (count ∷ []) line) where
  one_short : length line ≤ most_bytes
  one_short = well_short letter_n 1 line (count ∷ []) h.reads

  one_read : head_step (first line rest one_short h.whole) (line_of letter_n 2 line) (line_of letter_n 1 line)
      ≡ begin_step (first line rest one_short h.whole) count Outputs
  unfolding head_step
  one_read = rw (well_once letter_n 1 line (count ∷ []) h.reads 2 (λ e. let z : ⊥ = omega arith in absurd z), h.reads)

  shown_from : count_fits count ≡ true
      → listing_lines (headed line rest) ≡ lines_from (begun count Outputs (bytes line rest one_short h.whole)) rest
  unfolding begin_step
  shown_from e = head_read line rest one_short h.whole ∙ rw (one_read, e)

-- ---- the theorem

-- of a text whose `N` line has the count and a slice of it, and the same text with the count alone
module _ (count slice : ℕ) (with_slice without : List ℕ) (h : HeadLine (count ∷ slice ∷ []) with_slice) (g : HeadLine (count ∷ []) without)
    (fits : count_fits count ≡ true) (within : slice < count) where
  pub first_match_lem : (rest : List ℕ) → listing_lines (headed with_slice rest) ≡ first_match slice (listing_lines (headed without rest))
  first_match_lem rest =
      let line = bytes with_slice rest (two_short count slice with_slice rest h) h.whole in
      let line-too = bytes without rest (one_short count without rest g) g.whole in
      let a =
      answers slice rest (begun count Outputs line-too) line
      (record {
        plain = record { shows = refl; few = within; due = refl; holds = refl };
        line = refl;
        held = omega arith;
        long = bytes_length with_slice rest (two_short count slice with_slice rest h) h.whole;
        long_too = bytes_length without rest (one_short count without rest g) g.whole;
      }) in
      watched_from count slice with_slice rest h fits within
      ∙ a.lines
      ∙ sym (ap (first_match slice) (shown_from count without rest g fits))

  -- in bytes, and from the calls of any bench and any caller
  pub listing_first_match : (rest : List ℕ)
      → listing (headed with_slice rest) ≡ printed_lines (first_match slice (listing_lines (headed without rest)))
  listing_first_match rest = listing_lines_lem (headed with_slice rest) ∙ ap printed_lines (first_match_lem rest)

  pub pieces_find_the_match : (rest : List ℕ) {got : List ℕ} → length (headed with_slice rest) < count_bound → Bench (lent_of start) (headed with_slice rest) got
      → got ≡ printed_lines (first_match slice (listing_lines (headed without rest)))
  pieces_find_the_match rest l s = pieces_play_the_listing l s ∙ listing_first_match rest

  pub callers_find_the_match : (rest : List ℕ) {c : Caller} {got : List ℕ} → length (headed with_slice rest) < count_bound
      → Reads c (lent_of start) (headed with_slice rest) got → got ≡ printed_lines (first_match slice (listing_lines (headed without rest)))
  callers_find_the_match rest l calls = callers_get_the_listing l calls ∙ listing_first_match rest

  -- once the match has come, whatever follows changes nothing
  pub nothing_after_the_match : (front : List ℕ) (clock : ℕ) (clocks : List ℕ) → match_clocks slice (lines_by start (headed without front)) ≡ clock ∷ clocks
      → (more : List ℕ) → listing (headed with_slice (front ++ more)) ≡ printed letter_m (clock ∷ [])
  unfolding listing_lines
  nothing_after_the_match front clock clocks e more =
      let text : headed without (front ++ more) ≡ headed without front ++ more = sym (append_assoc without (newline ∷ front) more) in
      listing_first_match (front ++ more)
      ∙ ap (λ (ls : List Line). printed_lines (first_match slice ls)) (ap (lines_from start) text ∙ lines_cut start (headed without front) more)
      ∙ ap printed_lines
      (found slice (lines_by start (headed without front)) (lines_from (play_after start (headed without front)) more) clock clocks e)
      ∙ append-nil (printed letter_m (clock ∷ []))
