-- What a player's numbers keep to, from byte to byte. Assumes nothing.
use mathlib.Core.Path.{◌≡◌, refl}
use mathlib.Core.Bool.{Bool, true, false, cond}
use mathlib.Core.List.{List}
use Prim.Native.Nat.{ℕ, suc, ◌+◌, ◌<◌, ◌≤◌}
use native.Mathlib.Omega.{arith}
use lib.Dec.{leb, eqb}
use lib.ListN.{get_or}
use borrow.Author.Tests.{leb-true, leb-false, eqb-false}
use Rattle.column.specs.Refusals.{Answer, number_of, place_of, count_fits}
use Rattle.text.specs.Bytes.{newline, most_bytes}
use Rattle.text.specs.Numbers.{Numbers, is_well, words_of, line_of}
use Rattle.word.proofs.Laws.{both_true}
use Rattle.records.specs.Records.{attribute_words, port_words}
use Rattle.event.specs.declared.Event.{Event}
use Rattle.event.specs.declared.Event.TheVariants.{Nothing, Clocked, Matched, Refused, Ended}
use Rattle.event.specs.Showing.{shown}
use Rattle.player.specs.declared.Phase.{Phase}
use Rattle.player.specs.declared.Phase.TheVariants.{Head, Settings, Clocks, Stopped}
use Rattle.player.specs.declared.Shows.{Shows}
use Rattle.player.specs.declared.Shows.TheVariants.{Outputs, FirstMatch}
use Rattle.player.specs.declared.Player.{Player}
use Rattle.listing.specs.declared.steps.Step.{Step}
use Rattle.listing.specs.Letters.{letter_n, letter_p}
use Rattle.player.specs.Limits.{most_slices, count_bound}
use Rattle.listing.specs.Steps.{counted, one_more, named, halted, goes_on, refusal, stops_at, shown_step, last_of_group, answered, shows_within, begin_step, head_step, group_step, settings_step, clock_step}
use Rattle.player.specs.Numbers.{working}
use Rattle.listing.specs.Listing.{settings_line, Play, Turn, line_turn, part_turn, line_leaves, byte_turn, settings_of, clock_of, clocked_outputs, placed}
use Rattle.listing.specs.Parts.{Fair, Able}

-- what holds of both ways of a test holds of the step
either : (P : Step → Type 0) (b : Bool) (s t : Step) → (b ≡ true → P s) → (b ≡ false → P t) → P (cond b s t)
either P true s t f g = f refl
either P false s t f g = g refl

-- a player that has counted its line, and can run one clock more
abbrev Goes : (n : ℕ) → Step → Type 0
Goes n s = Able s.player n

module _ (q : Player) (n : ℕ) (fair : Fair q) (clocks : q.clocks + suc n < count_bound) (lines : q.lines + n < count_bound) where
  halts : (number place : ℕ) → Goes n (refusal q number place)
  halts number place =
      record { fair = record { count = fair.count; given = omega arith; held = omega arith }; clocks = omega arith; lines = lines }

  begin_goes : (count : ℕ) (shows : Shows) → Goes n (begin_step q count shows)
  unfolding begin_step
  begin_goes count shows =
      either (Goes n) (count_fits count) _ (refusal q 1 0)
      (λ e.
      let few = leb-true count most_slices (both_true (leb 1 count) (leb count most_slices) e).1 in
      either (Goes n) (shows_within shows count) (goes_on (named q count shows)) (refusal q 13 0)
      (λ w. record { fair = record { count = few; given = omega arith; held = fair.held }; clocks = omega arith; lines = lines })
      (λ w. halts 13 0))
      (λ e. halts 1 0)

  head_goes : (two one : Numbers) → Goes n (head_step q two one)
  unfolding head_step
  head_goes two one =
      either (Goes n) (is_well two) _ _ (λ w. begin_goes (get_or (words_of 2 two) 0 0) (FirstMatch (get_or (words_of 2 two) 1 0)))
      (λ w. either (Goes n) (is_well one) _ _ (λ v. begin_goes (get_or (words_of 1 one) 0 0) Outputs) (λ v. halts 12 q.lines))

  -- a step that can go on, however it is shown
  shown_goes : (s : Step) (os : List ℕ) → Goes n s → Goes n (shown_step s os)
  unfolding shown_step
  shown_goes s os g = go (shown s.player.shows s.event os)
    where
      stays : Able (halted s.player) n
      stays = record { fair = record { count = g.fair.count; given = omega arith; held = omega arith }; clocks = g.clocks; lines = g.lines }

      go : (e : Event) → Able (stops_at e s.player) n
      go Nothing = g
      go (Clocked clock) = g
      go (Matched clock) = stays
      go (Refused number clocks place) = g
      go (Ended clocks) = g

  answered_goes : (a : Answer) (accepted : Step) → Goes n accepted → Goes n (answered q a accepted)
  unfolding answered
  answered_goes a accepted g = either (Goes n) (eqb (number_of a) 0) accepted _ (λ e. g) (λ e. halts (number_of a) (place_of a))

  settings_go : (a : Answer) → Goes n (settings_step q a)
  settings_go a =
      answered_goes a _
      (record { fair = record { count = fair.count; given = omega arith; held = fair.held }; clocks = omega arith; lines = lines })

  clock_goes : (a : Answer) (os : List ℕ) → Goes n (clock_step q a os)
  clock_goes a os =
      answered_goes a _
      (shown_goes _ os
      (record { fair = record { count = fair.count; given = omega arith; held = fair.held }; clocks = omega arith; lines = lines }))

  group_goes : (well : Bool) (whole : Step) → Goes n whole → Goes n (group_step q well whole)
  unfolding group_step
  group_goes well whole g =
      either (Goes n) well _ _
      (λ w.
      either (Goes n) (last_of_group q) whole (goes_on (one_more q))
      (λ e. g)
      (λ e.
      let more : q.given + 1 < most_slices = omega (arith, leb-false q.count (q.given + 1) e, fair.count) in
      record { fair = record { count = fair.count; given = more; held = fair.held }; clocks = omega arith; lines = lines }))
      (λ w. halts 12 q.lines)

  line_goes : (f : Phase) (line at rs ps os : List ℕ) → Goes n (line_leaves f q line at rs ps os).step
  line_goes Head line at rs ps os = head_goes (line_of letter_n 2 line) (line_of letter_n 1 line)
  line_goes Settings line at rs ps os =
      group_goes (is_well (settings_line line)) _ (settings_go (settings_of q (placed attribute_words q (settings_line line) at)))
  line_goes Clocks line at rs ps os =
      let ps' = placed port_words q (line_of letter_p port_words line) ps in
      group_goes (is_well (line_of letter_p port_words line)) _ (clock_goes (clock_of q at rs ps' os) (clocked_outputs q at rs ps' os))
  line_goes Stopped line at rs ps os = record { fair = fair; clocks = omega arith; lines = lines }

-- a byte takes at most one of the lines and clocks that there is room for
pub byte_goes : (p : Play) (b n : ℕ) → Able p.player (suc n) → Able (byte_turn p b).play.player n
unfolding byte_turn
byte_goes p b n a =
    choose (working p.player.phase) _ _
    (choose (eqb b newline) (line_turn p) (part_turn p b)
    (line_goes (counted p.player) n (record { count = a.fair.count; given = a.fair.given; held = omega arith }) a.clocks lines
    p.player.phase _ _ _ _ _)
    (part (eqb p.player.held most_bytes) refl))
    (record { fair = a.fair; clocks = clocks; lines = fewer })
  where
    clocks : p.player.clocks + n < count_bound
    clocks = omega (arith, a.clocks)

    fewer : p.player.lines + n < count_bound
    fewer = omega (arith, a.lines)

    lines : p.player.lines + 1 + n < count_bound
    lines = omega (arith, a.lines)

    choose : (t : Bool) (u v : Turn) → Able u.play.player n → Able v.play.player n → Able (cond t u v).play.player n
    choose true u v f g = f
    choose false u v f g = g

    part : (t : Bool) → eqb p.player.held most_bytes ≡ t → Able (part_turn p b).play.player n
    part true e =
        rw e (record { fair = record { count = a.fair.count; given = omega arith; held = omega arith }; clocks = clocks; lines = fewer })
    part false e =
        let held : p.player.held + 1 ≤ most_bytes = omega (arith, a.fair.held, eqb-false p.player.held most_bytes e) in
        rw e (record { fair = record { count = a.fair.count; given = a.fair.given; held = held }; clocks = clocks; lines = fewer })
