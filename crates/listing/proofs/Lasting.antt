-- What is lent stays a player's, from byte to byte. Assumes nothing.
use mathlib.Core.Path.{◌≡◌, refl, ◌∙◌}
use mathlib.Core.Bool.{Bool, true, false, cond, ◌&&◌}
use mathlib.Core.List.{List, [], ◌∷◌}
use Prim.Native.Nat.{ℕ, zero, suc, ◌*◌, ◌-◌, ◌<◌, ◌≤◌}
use native.Mathlib.Numerals.{unary_clauses}
use native.Mathlib.Omega.{arith}
use lib.Dec.{leb, eqb}
use lib.ListN.{length, take, length-set, length-replicate}
use borrow.Author.Tests.{eq-eqb, le-leb, lt-ltb}
use Rattle.lent.specs.Refusing.{leaves}
use Rattle.records.specs.Records.{attribute_words, register_words, port_words, output_words}
use Rattle.column.specs.Refusals.{number_of}
use Rattle.column.specs.Column.{next_at, shown_at, column_next, column_shown}
use Rattle.column.proofs.Stacks.{stacked_length}
use Rattle.column.proofs.Edges.{next_length, shown_length}
use Rattle.text.specs.Bytes.{newline, most_bytes}
use Rattle.text.specs.Numbers.{Numbers, line_of, is_well, words_of}
use Rattle.text.specs.Printed.{pasted}
use Rattle.text.proofs.Paste.{pasted_length}
use Rattle.text.proofs.Lines.{words_length}
use Rattle.player.specs.declared.Phase.{Phase}
use Rattle.player.specs.declared.Phase.TheVariants.{Head, Settings, Clocks, Stopped}
use Rattle.player.specs.declared.Player.{Player}
use Rattle.listing.specs.Letters.{letter_p}
use Rattle.player.specs.Limits.{most_slices, count_bound}
use Rattle.listing.specs.Limits.{clock_room}
use Rattle.listing.specs.Steps.{counted, last_of_group}
use Rattle.player.specs.Numbers.{working}
use Rattle.listing.specs.Listing.{settings_line, Play, Turn, Left, placed, clock_of, clocked_registers, clocked_outputs, line_leaves, line_turn, part_turn, turn_bytes, byte_turn, start}
use Rattle.player.specs.Fitting.{fits as fits_by}
use Rattle.listing.specs.Calls.{play_of, lent_of, fits, nothing, further, played}
use Rattle.listing.specs.Parts.{Fair, Able, Words, Frames}
use Rattle.listing.proofs.SettingsLine.{settings_length}
use Rattle.listing.proofs.Groups.{stretch_room}
use Rattle.listing.proofs.Keeps.{byte_goes}
use Rattle.listing.proofs.Clocks.{within}
use Rattle.player.proofs.Stored.{player_back}

-- a play whose counts have room for n bytes more
pub record Good (p : Play) (n : ℕ) : Type 0 where
  pub able : Able p.player n
  pub frames : Frames p.attributes p.registers p.ports p.outputs p.line

-- ---- a line keeps the lengths

-- a line's numbers take the place of as many
placed_keeps : (n : ℕ) (q : Player) (x : Numbers) (ws : List ℕ) → length (words_of n x) ≡ n → q.given < most_slices → length ws ≡ n * most_slices
    → length (placed n q x ws) ≡ n * most_slices
placed_keeps n q x ws long h l = pasted_length (n * q.given) (words_of n x) ws (omega (arith, long, stretch_room n q.given ws h l)) ∙ l

-- what a clock leaves takes the place of as many
leaves_keeps : (number : ℕ) (new ws : List ℕ) → length new ≤ length ws → length (leaves number (pasted 0 new ws) ws) ≡ length ws
leaves_keeps zero new ws h = pasted_length 0 new ws (omega arith)
leaves_keeps (suc n) new ws h = refl

module _ (q : Player) (at rs ps os : List ℕ) (few : q.count ≤ most_slices) where
  registers_keep : length rs ≡ register_words * most_slices → length (clocked_registers q at rs ps os) ≡ register_words * most_slices
  unfolding clocked_registers column_next
  registers_keep l =
      leaves_keeps (number_of (clock_of q at rs ps os))
      (column_next q.count (take (attribute_words * q.count) at) (take (register_words * q.count) rs) (take (port_words * q.count) ps)) rs
      (omega (
        arith,
        stacked_length (next_at (take (attribute_words * q.count) at) (take (register_words * q.count) rs) (take (port_words * q.count) ps)) register_words
            (next_length _ _ _) q.count,
        within register_words q.count rs few l,
      ))
      ∙ l

  outputs_keep : length os ≡ output_words * most_slices → length (clocked_outputs q at rs ps os) ≡ output_words * most_slices
  unfolding clocked_outputs column_shown
  outputs_keep l =
      leaves_keeps (number_of (clock_of q at rs ps os))
      (column_shown q.count (take (attribute_words * q.count) at) (take (register_words * q.count) rs) (take (port_words * q.count) ps)) os
      (omega (
        arith,
        stacked_length (shown_at (take (attribute_words * q.count) at) (take (register_words * q.count) rs) (take (port_words * q.count) ps)) output_words
            (shown_length _ _ _) q.count,
        within output_words q.count os few l,
      ))
      ∙ l

choose_length : (b : Bool) (xs ys : List ℕ) (n : ℕ) → length xs ≡ n → length ys ≡ n → length (cond b xs ys) ≡ n
choose_length true xs ys n f g = f
choose_length false xs ys n f g = g

abbrev LeftWords : Left → Type 0
LeftWords l = Words l.attributes l.registers l.ports l.outputs

line_keeps : (f : Phase) (q : Player) (line at rs ps os : List ℕ) → Fair q → Words at rs ps os → LeftWords (line_leaves f q line at rs ps os)
line_keeps Head q line at rs ps os h w = w
line_keeps Settings q line at rs ps os h w =
    record {
      attributes = placed_keeps attribute_words q (settings_line line) at (settings_length line) h.given w.attributes;
      registers = w.registers;
      ports = w.ports;
      outputs = w.outputs;
    }
line_keeps Clocks q line at rs ps os h w =
    let x = line_of letter_p port_words line in
    let ps' = placed port_words q x ps in
    record {
      attributes = w.attributes;
      registers =
          choose_length (is_well x && last_of_group q) (clocked_registers q at rs ps' os) rs (register_words * most_slices)
          (registers_keep q at rs ps' os h.count w.registers) w.registers;
      ports = placed_keeps port_words q x ps (words_length letter_p port_words line) h.given w.ports;
      outputs =
          choose_length (is_well x && last_of_group q) (clocked_outputs q at rs ps' os) os (output_words * most_slices)
          (outputs_keep q at rs ps' os h.count w.outputs) w.outputs;
    }
line_keeps Stopped q line at rs ps os h w = w

-- ---- a byte, and a piece

abbrev TurnFrames : Turn → Type 0
TurnFrames t = Frames t.play.attributes t.play.registers t.play.ports t.play.outputs t.play.line

either : (b : Bool) (t u : Turn) → TurnFrames t → TurnFrames u → TurnFrames (cond b t u)
either true t u f g = f
either false t u f g = g

byte_keeps : (p : Play) (b n : ℕ) → Good p (suc n) → TurnFrames (byte_turn p b)
unfolding byte_turn
byte_keeps p b n g =
    let q = counted p.player in
    let fair : Fair q = record { count = g.able.fair.count; given = g.able.fair.given; held = omega arith } in
    either (working p.player.phase) _ _
    (either (eqb b newline) (line_turn p) (part_turn p b)
    (record {
      words = line_keeps p.player.phase q (take p.player.held p.line) p.attributes p.registers p.ports p.outputs fair g.frames.words;
      line = g.frames.line;
    })
    (either (eqb p.player.held most_bytes) _ _ g.frames
    (record { words = g.frames.words; line = rw length-set g.frames.line })))
    g.frames

pub byte_lasts : (p : Play) (b n : ℕ) → Good p (suc n) → Good (byte_turn p b).play n
byte_lasts p b n g = record { able = byte_goes p b n g.able; frames = byte_keeps p b n g }

pub piece_lasts : (room : ℕ) (p : Play) (piece : List ℕ) (n : ℕ) → length piece ≤ n → Good p n → Good (played room p piece).play (n - (played room p piece).used)
piece_lasts room p [] n h g = simp unary_clauses g
piece_lasts room p (b ∷ bs) zero h g = let z : ⊥ = omega arith in absurd z
piece_lasts room p (b ∷ bs) (suc n) h g =
    go (leb clock_room room) (piece_lasts (room - length (turn_bytes (byte_turn p b))) (byte_turn p b).play bs n (omega arith) (byte_lasts p b n g))
  where
    go : (r : Bool) → (let o = played (room - length (turn_bytes (byte_turn p b))) (byte_turn p b).play bs in
        Good o.play (n - o.used)
        → Good (cond r (further (byte_turn p b) o) (nothing p)).play (suc n - (cond r (further (byte_turn p b) o) (nothing p)).used))
    go true f = simp unary_clauses f
    go false f = simp unary_clauses g

-- ---- as lent words

pub lent_back : (p : Play) → play_of (lent_of p) ≡ p
unfolding play_of lent_of
lent_back p = rw (player_back p.player)

pub good_fits : (p : Play) (n : ℕ) → Good p n → fits n (lent_of p) ≡ true
unfolding fits_by lent_of
good_fits p n g =
    let q = p.player in
    let w = g.frames.words in
    rw (
      eq-eqb (length p.attributes) _ w.attributes,
      eq-eqb (length p.registers) _ w.registers,
      eq-eqb (length p.ports) _ w.ports,
      eq-eqb (length p.outputs) _ w.outputs,
      eq-eqb (length p.line) _ g.frames.line,
      le-leb q.count most_slices g.able.fair.count,
      lt-ltb q.given most_slices g.able.fair.given,
      le-leb q.held most_bytes g.able.fair.held,
      lt-ltb n (count_bound - q.clocks) (omega (arith, g.able.clocks)),
      lt-ltb n (count_bound - q.lines) (omega (arith, g.able.lines)),
    )

pub start_good : (n : ℕ) → n < count_bound → Good start n
start_good n h =
    record {
      able = record { fair = record { count = omega arith; given = omega arith; held = omega arith }; clocks = omega arith; lines = omega arith };
      frames = record {
        words = record {
          attributes = length-replicate {A = ℕ} _ 0;
          registers = length-replicate {A = ℕ} _ 0;
          ports = length-replicate {A = ℕ} _ 0;
          outputs = length-replicate {A = ℕ} _ 0;
        };
        line = length-replicate {A = ℕ} _ 0;
      };
    }
