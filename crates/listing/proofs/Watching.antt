-- Two players of one text, of which one shows every output and the other looks for the first match: step by step, and to the end. Assumes
-- nothing.
use mathlib.Core.Path.{◌≡◌, refl, sym, ap, ◌∙◌}
use mathlib.Core.Bool.{Bool, true, false, cond, ◌&&◌}
use mathlib.Core.List.{List, [], ◌∷◌, ◌++◌}
use Prim.Native.Nat.{ℕ, ◌+◌, ◌<◌, ◌≤◌}
use native.Mathlib.Omega.{arith}
use lib.Dec.{eqb}
use lib.ListN.{length, take, set, length-set}
use borrow.Author.Tests.{eqb-false}
use Rattle.records.specs.Records.{attribute_words, port_words}
use Rattle.column.specs.Refusals.{Answer, number_of, place_of}
use Rattle.text.specs.Bytes.{newline, most_bytes}
use Rattle.text.specs.Numbers.{line_of, is_well}
use Rattle.text.proofs.Lines.{take_set}
use Rattle.event.specs.declared.Event.TheVariants.{Nothing, Clocked, Matched, Refused, Ended}
use Rattle.event.specs.Lines.{lines_of, output_line, listed}
use Rattle.event.specs.Showing.{detects, shown}
use Rattle.player.specs.declared.Phase.{Phase}
use Rattle.player.specs.declared.Phase.TheVariants.{Head, Settings, Clocks, Stopped}
use Rattle.player.specs.declared.Shows.TheVariants.{Outputs, FirstMatch}
use Rattle.player.specs.declared.Player.{Player}
use Rattle.player.specs.Numbers.{working}
use Rattle.listing.specs.declared.steps.Step.{Step}
use Rattle.listing.specs.Letters.{letter_p}
use Rattle.listing.specs.Steps.{counted, longer, one_more, clocking, clock_run, halted, goes_on, refusal, shown_step, last_of_group, group_step, answered, settings_step, clock_step, between_clocks, end_in, end_of}
use Rattle.listing.specs.Listing.{Play, leaving, settings_line, settings_of, clock_of, clocked_registers, clocked_outputs, placed, line_leaves, Turn, turn_of, stepping, line_turn, byte_turn}
use Rattle.listing.specs.Matching.{turn_lines, lines_from, first_match}
use Rattle.listing.specs.Parts.{playing}
use Rattle.listing.proofs.Pieces.{with_byte, join_turn}
use Rattle.listing.proofs.Found.{stopped_none, Some, append_some, not_yet, found, clock_none, clock_match}

-- ---- the two players

-- the player that looks for the first match of slice k where this one shows every output
abbrev pub watching : (k : ℕ) → Player → Player
watching k q = record {
  phase = q.phase;
  count = q.count;
  given = q.given;
  clocks = q.clocks;
  lines = q.lines;
  held = q.held;
  shows = FirstMatch k;
}

-- whose line's bytes are others where none are held
abbrev pub watched : (k : ℕ) → (bytes : List ℕ) → Play → Play
watched k bytes p = record {
  player = watching k p.player;
  attributes = p.attributes;
  registers = p.registers;
  ports = p.ports;
  outputs = p.outputs;
  line = bytes;
}

-- `A` or `P` lines are due
abbrev pub is_due : Phase → Bool
is_due Head = false
is_due Settings = true
is_due Clocks = true
is_due Stopped = false

never : false ≡ true → ⊥
never e = let z : ◌≡◌ {A = ℕ} 0 1 = cc in omega arith

due_works : (f : Phase) → is_due f ≡ true → working f ≡ true
due_works Head e = absurd (never e)
due_works Settings e = refl
due_works Clocks e = refl
due_works Stopped e = absurd (never e)

-- a player that shows every output, of a column with slice k, and holds so many bytes
pub record Plain (k held : ℕ) (q : Player) : Type 0 where
  pub shows : q.shows ≡ Outputs
  pub few : k < q.count
  pub due : is_due q.phase ≡ true
  pub holds : q.held ≡ held

-- ---- a line's step, of both players

-- os is what the column shows after it
data Pair (k held : ℕ) (os : List ℕ) : Step → Step → Type 0 where
  goes : (q : Player) → Plain k held q → Pair k held os (goes_on (watching k q)) (goes_on q)
  refuses : (q : Player) (number place : ℕ) → Pair k held os (refusal (watching k q) number place) (refusal q number place)
  clocks : (q : Player) (clock : ℕ) → Plain k held q
      → Pair k held os (shown_step (record { player = watching k q; event = Clocked clock }) os) (shown_step (record { player = q; event = Clocked clock }) os)

either : {k held : ℕ} {os : List ℕ} (b : Bool) {w x s t : Step} → (b ≡ true → Pair k held os w s) → (b ≡ false → Pair k held os x t)
    → Pair k held os (cond b w x) (cond b s t)
either true f g = f refl
either false f g = g refl

module _ (k held : ℕ) (q : Player) (plain : Plain k held q) where
  one_more_lem : Plain k held (one_more q)
  one_more_lem = record { shows = plain.shows; few = plain.few; due = plain.due; holds = plain.holds }

  group_pair : (os : List ℕ) (well : Bool) (w s : Step) → (well ≡ true → last_of_group q ≡ true → Pair k held os w s)
      → Pair k held os (group_step (watching k q) well w) (group_step q well s)
  unfolding group_step
  group_pair os well w s whole =
      either well (λ e. either (last_of_group q) (λ l. whole e l) (λ l. goes (one_more q) one_more_lem)) (λ e. refuses q 12 q.lines)

  answered_pair : (os : List ℕ) (a : Answer) (w s : Step) → Pair k held os w s → Pair k held os (answered (watching k q) a w) (answered q a s)
  unfolding answered
  answered_pair os a w s whole = either (eqb (number_of a) 0) (λ e. whole) (λ e. refuses q (number_of a) (place_of a))

  settings_pair : (os : List ℕ) (a : Answer) → Pair k held os (settings_step (watching k q) a) (settings_step q a)
  settings_pair os a =
      answered_pair os a _ _ (goes (clocking q) (record { shows = plain.shows; few = plain.few; due = refl; holds = plain.holds }))

  clock_pair : (os : List ℕ) (a : Answer) → Pair k held os (clock_step (watching k q) a os) (clock_step q a os)
  clock_pair os a =
      answered_pair os a _ _
      (clocks (clock_run q) q.clocks (record { shows = plain.shows; few = plain.few; due = plain.due; holds = plain.holds }))

  module _ (line at rs ps os : List ℕ) where
    -- what the line leaves, of both
    record Lines (f : Phase) : Type 0 where
      step : (let l = line_leaves f q line at rs ps os in
          Pair k held l.outputs (line_leaves f (watching k q) line at rs ps os).step l.step)
      words : (let l = line_leaves f q line at rs ps os in
          line_leaves f (watching k q) line at rs ps os
          ≡ leaving (line_leaves f (watching k q) line at rs ps os).step l.attributes l.registers l.ports l.outputs)

    line_pair : (f : Phase) → is_due f ≡ true → Lines f
    unfolding clocked_registers clocked_outputs
    line_pair Head e = absurd (never e)
    line_pair Settings e =
        record {
          step = group_pair os (is_well (settings_line line)) _ _ (λ w l. settings_pair os (settings_of q (placed attribute_words q (settings_line line) at)));
          words = refl;
        }
    line_pair Clocks e =
        let x = line_of letter_p port_words line in
        let ps' = placed port_words q x ps in
        record {
          step =
              group_pair (cond (is_well x && last_of_group q) (clocked_outputs q at rs ps' os) os) (is_well x) _ _
              (λ w l.
              rw (w, l) (clock_pair (clocked_outputs q at rs ps' os) (clock_of q at rs ps' os)));
          words = refl;
        }
    line_pair Stopped e = absurd (never e)

-- ---- a turn, and what follows it

-- a step that shows every output of a clock, and one that shows its match or nothing
module _ (k clock : ℕ) (os : List ℕ) (q : Player) where
  plain_shown : q.shows ≡ Outputs → shown_step (record { player = q; event = Clocked clock }) os ≡ record { player = q; event = Clocked clock }
  unfolding shown_step shown
  plain_shown e = rw e

  match_shown : detects k os ≡ true
      → shown_step (record { player = watching k q; event = Clocked clock }) os ≡ record { player = halted (watching k q); event = Matched clock }
  unfolding shown_step shown
  match_shown e = rw e

  none_shown : detects k os ≡ false → shown_step (record { player = watching k q; event = Clocked clock }) os ≡ goes_on (watching k q)
  unfolding shown_step shown
  none_shown e = rw e

-- of a text from two plays on, and from two turns on
pub record Answers (k : ℕ) (w p : Play) (text : List ℕ) : Type 0 where
  pub lines : lines_from w text ≡ first_match k (lines_from p text)
  pub some : Some (lines_from p text)

record TurnAnswers (k : ℕ) (w t : Turn) (text : List ℕ) : Type 0 where
  lines : turn_lines w ++ lines_from w.play text ≡ first_match k (turn_lines t ++ lines_from t.play text)
  some : Some (turn_lines t ++ lines_from t.play text)

module _ (k held : ℕ) (at rs ps os bytes line text : List ℕ)
    (next : (q : Player) → Plain k held q → Answers k (watched k bytes (playing q at rs ps os line)) (playing q at rs ps os line) text) where
  pair_answers : {w s : Step} → Pair k held os w s → TurnAnswers k (turn_of (leaving w at rs ps os) bytes) (turn_of (leaving s at rs ps os) line) text
  pair_answers (goes q plain) = let a = next q plain in record { lines = a.lines; some = a.some }
  pair_answers (refuses q number place) =
      let stopped = stopped_none (turn_of (leaving (refusal q number place) at rs ps os) line).play text refl in
      let stopped-too = stopped_none (turn_of (leaving (refusal (watching k q) number place) at rs ps os) bytes).play text refl in
      record {
        lines = rw (stopped, stopped-too);
        some = record { first = _; rest = _; is = refl };
      }
  pair_answers (clocks q clock plain) = rw (plain_shown k clock os q plain.shows) (go (detects k os) refl)
    where
      p : Play
      p = playing q at rs ps os line

      go : (t : Bool) → detects k os ≡ t
          → TurnAnswers k (turn_of (leaving (shown_step (record { player = watching k q; event = Clocked clock }) os) at rs ps os) bytes)
          (turn_of (leaving (record { player = q; event = Clocked clock }) at rs ps os) line) text
      go true e =
          let m = clock_match k clock os e q.count plain.few in
          let stopped = stopped_none (turn_of (leaving (record { player = halted (watching k q); event = Matched clock }) at rs ps os) bytes).play text refl in
          rw (match_shown k clock os q e)
          (record {
            lines = rw stopped (sym (found k (listed (output_line clock os) q.count) (lines_from p text) clock m.rest m.is));
            some = append_some (listed (output_line clock os) q.count) (lines_from p text) (next q plain).some;
          })
      go false e =
          let a = next q plain in
          rw (none_shown k clock os q e)
          (record {
            lines = a.lines ∙ sym (not_yet k (listed (output_line clock os) q.count) (lines_from p text) (clock_none k clock os e q.count) a.some);
            some = append_some (listed (output_line clock os) q.count) (lines_from p text) a.some;
          })

-- ---- byte after byte

-- two plays that are alike but for what they show: the bytes that the line holds are the same
pub record Alike (k : ℕ) (p : Play) (bytes : List ℕ) : Type 0 where
  pub plain : Plain k p.player.held p.player
  pub line : take p.player.held bytes ≡ take p.player.held p.line
  pub held : p.player.held ≤ most_bytes
  pub long : length bytes ≡ most_bytes
  pub long_too : length p.line ≡ most_bytes

-- a byte's turn, by its kind
module _ (p : Play) (b : ℕ) (works : working p.player.phase ≡ true) where
  pub line_turn_lem : eqb b newline ≡ true → byte_turn p b ≡ line_turn p
  unfolding byte_turn
  line_turn_lem e = rw (works, e)

  too_long_turn : eqb b newline ≡ false → eqb p.player.held most_bytes ≡ true
      → byte_turn p b ≡ turn_of (stepping (refusal p.player 12 (p.player.lines + 1)) p) p.line
  unfolding byte_turn
  too_long_turn e f = rw (works, e, f)

-- the end of the input, where `A` or `P` lines are due
ends_alike : (k : ℕ) (q : Player) (f : Phase) → is_due f ≡ true
    → (let ls = lines_of (end_in f q) 0 [] in (lines_of (end_in f (watching k q)) 0 [] ≡ first_match k ls) × Some ls)
ends_alike k q Head e = absurd (never e)
ends_alike k q Settings e = (refl, record { first = _; rest = _; is = refl })
ends_alike k q Clocks e = go (between_clocks q)
  where
    go : (t : Bool) → (let ls = lines_of (cond t (Ended q.clocks) (Refused 12 q.clocks (q.lines + 1))) 0 [] in (ls ≡ first_match k ls) × Some ls)
    go true = (refl, record { first = _; rest = _; is = refl })
    go false = (refl, record { first = _; rest = _; is = refl })
ends_alike k q Stopped e = absurd (never e)

module _ (k : ℕ) (p : Play) (bytes text : List ℕ) (a : Alike k p bytes)
    (next : (p : Play) (bytes : List ℕ) → Alike k p bytes → Answers k (watched k bytes p) p text) where
  works : working p.player.phase ≡ true
  works = due_works p.player.phase a.plain.due

  -- what follows where a line begins
  afresh : (at rs ps os : List ℕ) (q : Player) → Plain k 0 q
      → Answers k (watched k bytes (playing q at rs ps os p.line)) (playing q at rs ps os p.line) text
  afresh at rs ps os q h =
      next (playing q at rs ps os p.line) bytes
      (record {
        plain = record { shows = h.shows; few = h.few; due = h.due; holds = refl };
        line = rw h.holds;
        held = rw h.holds (omega arith);
        long = a.long;
        long_too = a.long_too;
      })

  -- a newline
  line_answers : TurnAnswers k (line_turn (watched k bytes p)) (line_turn p) text
  line_answers =
      let q = counted p.player in
      let plain : Plain k 0 q = record { shows = a.plain.shows; few = a.plain.few; due = a.plain.due; holds = refl } in
      let line = take p.player.held p.line in
      let l = line_leaves p.player.phase q line p.attributes p.registers p.ports p.outputs in
      let d = line_pair k 0 q plain line p.attributes p.registers p.ports p.outputs p.player.phase a.plain.due in
      rw (a.line, d.words)
      (pair_answers k 0 l.attributes l.registers l.ports l.outputs bytes p.line text
      (afresh l.attributes l.registers l.ports l.outputs) d.step)

  -- a byte of a line that has room for it
  part_answers : (b : ℕ) → (p.player.held ≡ most_bytes → ⊥)
      → TurnAnswers k (record { play = with_byte (watched k bytes p) b; event = Nothing }) (record { play = with_byte p b; event = Nothing }) text
  part_answers b room =
      let held = p.player.held in
      let less : held < most_bytes = omega (arith, a.held) in
      let n =
      next (playing (longer 1 p.player) p.attributes p.registers p.ports p.outputs (set p.line held b)) (set bytes held b)
      (record {
        plain = record { shows = a.plain.shows; few = a.plain.few; due = a.plain.due; holds = refl };
        line =
            take_set bytes held b (omega (arith, a.long))
            ∙ ap (λ (xs : List ℕ). xs ++ (b ∷ [])) a.line
            ∙ sym (take_set p.line held b (omega (arith, a.long_too)));
        held = omega arith;
        long = rw length-set a.long;
        long_too = rw length-set a.long_too;
      }) in
      record { lines = n.lines; some = n.some }

  byte_answers : (b : ℕ) → TurnAnswers k (byte_turn (watched k bytes p) b) (byte_turn p b) text
  byte_answers b = go (eqb b newline) (eqb p.player.held most_bytes) refl refl
    where
      go : (n f : Bool) → eqb b newline ≡ n → eqb p.player.held most_bytes ≡ f → TurnAnswers k (byte_turn (watched k bytes p) b) (byte_turn p b) text
      go true f e g = rw (line_turn_lem p b works e, line_turn_lem (watched k bytes p) b works e) line_answers
      go false true e g =
          rw (too_long_turn p b works e g, too_long_turn (watched k bytes p) b works e g)
          (pair_answers k 0 p.attributes p.registers p.ports p.outputs bytes p.line text
          (afresh p.attributes p.registers p.ports p.outputs) (refuses p.player 12 (p.player.lines + 1)))
      go false false e g =
          rw (join_turn p b works e g, join_turn (watched k bytes p) b works e g) (part_answers b (eqb-false p.player.held most_bytes g))

pub answers : (k : ℕ) (text : List ℕ) (p : Play) (bytes : List ℕ) → Alike k p bytes → Answers k (watched k bytes p) p text
unfolding end_of
answers k [] p bytes a = let e = ends_alike k p.player p.player.phase a.plain.due in record { lines = e.0; some = e.1 }
answers k (b ∷ bs) p bytes a =
    let t = byte_answers k p bytes bs a (λ p bytes a. answers k bs p bytes a) b in
    record { lines = t.lines; some = t.some }
