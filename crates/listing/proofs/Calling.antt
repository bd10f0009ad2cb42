-- What `play` leaves, from its test and its run. Assumes nothing.
use mathlib.Core.Path.{◌≡◌, sym, ap, ◌∙◌, subst}
use mathlib.Core.Bool.{Bool, true, false, not, ◌&&◌}
use mathlib.Core.List.{List}
use Prim.Native.Nat.{ℕ, ◌*◌, ◌-◌}
use native.Mathlib.Omega.{arith}
use lib.Dec.{eqb, leb, ltb}
use lib.ListN.{length}
use borrow.Author.Tests.{eqb-true, leb-true, ltb-true, not-true, not-false}
use Rattle.std.proofs.Common.{Option, Some, MutBor}
use Rattle.std.specs.Array.{IsWholeChunk}
use Rattle.std.specs.Option.{MatchOption}
use Rattle.records.specs.Records.{attribute_words, register_words, port_words, output_words}
use Rattle.text.specs.Bytes.{most_bytes}
use Rattle.text.proofs.Paste.{put_none}
use Rattle.player.specs.declared.Player.{Player}
use Rattle.listing.specs.declared.Played.{Played}
use Rattle.listing.specs.declared.machine.Run.{Run}
use Rattle.player.specs.Limits.{most_slices, count_bound}
use Rattle.player.specs.Numbers.{working}
use Rattle.listing.specs.Listing.{Play}
use Rattle.player.specs.Numbers.{player_numbers, player_of, player_words}
use Rattle.player.specs.Fitting.{lengths_fit, numbers_fit, fits as fits_by}
use Rattle.listing.specs.Calls.{Lent, lending, play_of, lent_of, fits, lent_after, goes_after, outcome_of, PiecePlayed}
use Rattle.listing.specs.Parts.{Able, Frames, playing, Ran}
use Rattle.word.proofs.Laws.{both_true}

-- ---- what is lent is a player's

-- the first of two tests that both hold, and the second
left : (a b : Bool) → a && b ≡ true → a ≡ true
left a b h = (both_true a b h).0

right : (a b : Bool) → a && b ≡ true → b ≡ true
right a b h = (both_true a b h).1

numbers_able : (n : ℕ) (q : Player) → numbers_fit n q ≡ true → Able q n
numbers_able n q h =
    let a = leb q.count most_slices in
    let b = ltb q.given most_slices in
    let c = leb q.held most_bytes in
    let d = ltb n (count_bound - q.clocks) in
    let e = ltb n (count_bound - q.lines) in
    let four = left (a && b && c && d) e h in
    let three = left (a && b && c) d four in
    let two = left (a && b) c three in
    let clocks = ltb-true n (count_bound - q.clocks) (right (a && b && c) d four) in
    let lines = ltb-true n (count_bound - q.lines) (right (a && b && c && d) e h) in
    record {
      fair = record {
        count = leb-true q.count most_slices (left a b two);
        given = ltb-true q.given most_slices (right a b two);
        held = leb-true q.held most_bytes (right (a && b) c three);
      };
      clocks = omega (arith, clocks);
      lines = omega (arith, lines);
    }

lengths_frames : (at rs ps os bytes : List ℕ) → lengths_fit (length at) (length rs) (length ps) (length os) (length bytes) ≡ true
    → Frames at rs ps os bytes
lengths_frames at rs ps os bytes h =
    let a = eqb (length at) (attribute_words * most_slices) in
    let b = eqb (length rs) (register_words * most_slices) in
    let c = eqb (length ps) (port_words * most_slices) in
    let d = eqb (length os) (output_words * most_slices) in
    let e = eqb (length bytes) most_bytes in
    let four = left (a && b && c && d) e h in
    let three = left (a && b && c) d four in
    let two = left (a && b) c three in
    record {
      words = record {
        attributes = eqb-true (length at) (attribute_words * most_slices) (left a b two);
        registers = eqb-true (length rs) (register_words * most_slices) (right a b two);
        ports = eqb-true (length ps) (port_words * most_slices) (right (a && b) c three);
        outputs = eqb-true (length os) (output_words * most_slices) (right (a && b && c) d four);
      };
      line = eqb-true (length bytes) most_bytes (right (a && b && c && d) e h);
    }

-- what the test says
pub record Fit (n : ℕ) (l : Lent) : Type 0 where
  pub numbers : length l.numbers ≡ player_numbers
  pub frames : Frames l.attributes l.registers l.ports l.outputs l.line
  pub able : Able (player_of l.numbers) n

pub fits_true : (n : ℕ) (l : Lent) (r : Bool) → r ≡ fits n l → not r ≡ false → Fit n l
unfolding fits_by
fits_true n l r e t =
    let h : fits n l ≡ true = sym e ∙ not-false r t in
    let a = eqb (length l.numbers) player_numbers in
    let b = lengths_fit (length l.attributes) (length l.registers) (length l.ports) (length l.outputs) (length l.line) in
    let c = numbers_fit n (player_of l.numbers) in
    let two = left (a && b) c h in
    record {
      numbers = eqb-true (length l.numbers) player_numbers (left a b two);
      frames = lengths_frames l.attributes l.registers l.ports l.outputs l.line (right a b two);
      able = numbers_able n (player_of l.numbers) (right (a && b) c h);
    }

-- the same of the parts
pub fit_of : {n : ℕ} {ns at rs ps os line : List ℕ} {r : Bool} → r ≡ fits n (lending ns at rs ps os line) → r ≡ true
    → Fit n (lending ns at rs ps os line)
fit_of {n} {ns} {at} {rs} {ps} {os} {line} {r} e t = fits_true n (lending ns at rs ps os line) r e (ap not t)

-- ---- what the call leaves

module _ (piece : List ℕ) (l : Lent) (out : List ℕ) where
  pub not_played : (fit : Bool) → fit ≡ fits (length piece) l → not fit ≡ true → (r : Played)
      → (r.used ≡ 0) × ((r.made ≡ 0) × (r.goes ≡ false)) → PiecePlayed piece l out r l out
  unfolding outcome_of lent_after goes_after
  not_played fit f t r e =
      let h = sym f ∙ not-true fit t in
      record {
        used = rw h e.0;
        goes = rw h e.1.1;
        says = rw (h, e.1.0) (put_none 0 out);
        lent = rw h;
        part = omega (arith, e.0);
        room = omega (arith, e.1.0);
      }

  pub piece_played : (fit : Bool) → fit ≡ fits (length piece) l → not fit ≡ false → (q : Player) (r : Run) (ns at rs ps os line out' : List ℕ) (goes : Bool) → q ≡ player_of l.numbers
      → Ran (playing q l.attributes l.registers l.ports l.outputs l.line) piece out r (playing r.player at rs ps os line) out'
      → ns ≡ player_words r.player → goes ≡ working r.player.phase
      → PiecePlayed piece l out (record { used = r.used; made = r.made; goes = goes }) (lending ns at rs ps os line) out'
  unfolding outcome_of lent_after goes_after play_of lent_of
  piece_played fit f t q r ns at rs ps os line out' goes e ran stored phase =
      let h = sym f ∙ not-false fit t in
      let left = playing r.player at rs ps os line in
      let go =
      subst (λ (x : Player). Ran (playing x l.attributes l.registers l.ports l.outputs l.line) piece out r left out') e ran in
      record {
        used = rw h go.used;
        goes = rw h (phase ∙ ap (λ (p : Play). working p.player.phase) go.play);
        says = rw h go.says;
        part = go.part;
        room = go.room;
        lent =
            rw h
            (ap (λ (x : List ℕ). lending x at rs ps os line) stored
            ∙ ap
            (λ (p : Play). lending (player_words p.player) p.attributes p.registers p.ports p.outputs p.line)
            go.play);
      }

-- ---- the lent slices as arrays

-- what an array that is all of a slice has
pub whole_array : (n : ℕ) (P : Type 0) {xs : List ℕ} {r : Option (MutBor (List ℕ))} {y : MutBor (List ℕ)} → r ≡ Some y
    → MatchOption r P (λ z. IsWholeChunk xs z.now n) → y.now ≡ xs
whole_array n P {xs} e m = (subst (λ (r : Option (MutBor (List ℕ))). MatchOption r P (λ z. IsWholeChunk xs z.now n)) e m).same

pub same_play : {q : Player} {at rs ps os line at' rs' ps' os' line' piece out out' : List ℕ} {r : Run} {p : Play}
    → at' ≡ at → rs' ≡ rs → ps' ≡ ps → os' ≡ os → line' ≡ line
    → Ran (playing q at' rs' ps' os' line') piece out r p out' → Ran (playing q at rs ps os line) piece out r p out'
same_play a b c d e ran = rw (← a, ← b, ← c, ← d, ← e) ran
