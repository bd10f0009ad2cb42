-- What the parts of the code promise one another; no caller needs it. Assumes nothing.
use Rattle.std.specs.Prelude.{ℕ, suc, ◌+◌, ◌*◌, ◌≤◌, ◌<◌, ◌≡◌, Bool, true, cond, ◌&&◌, ◌||◌, List, [], ◌∷◌, eqb, length, drop, set, get_or, Option, Some, None}
use Rattle.records.specs.Records.{attribute_words, register_words, port_words, output_words}
use Rattle.text.specs.Bytes.{newline, most_bytes}
use Rattle.text.specs.Numbers.{Numbers, values, malformed, line_of, is_well, words_of}
use Rattle.text.specs.Printed.{Put}
use Rattle.player.specs.declared.Player.{Player}
use Rattle.listing.specs.declared.steps.Step.{Step}
use Rattle.listing.specs.declared.machine.Reach.{Reach}
use Rattle.listing.specs.declared.machine.Run.{Run}
use Rattle.listing.specs.Letters.{letter_p}
use Rattle.player.specs.Limits.{most_slices, count_bound}
use Rattle.listing.specs.Steps.{longer, last_of_group, group_step, settings_step, clock_step}
use Rattle.player.specs.Numbers.{working}
use Rattle.listing.specs.Listing.{Play, placed, settings_line, settings_of, clock_of, clocked_registers, clocked_outputs}
use Rattle.listing.specs.Calls.{played}

-- the numbers that a line has
abbrev pub read_as : Numbers → Option (List ℕ)
read_as (values ws) = Some ws
read_as malformed = None

-- a player's numbers are in range
pub record Fair (q : Player) : Type 0 where
  pub count : q.count ≤ most_slices
  pub given : q.given < most_slices
  pub held : q.held ≤ most_bytes

-- and its counts have room for n lines and n clocks more
pub record Able (q : Player) (n : ℕ) : Type 0 where
  pub fair : Fair q
  pub clocks : q.clocks + n < count_bound
  pub lines : q.lines + n < count_bound

-- it can run a clock
pub record Clockable (q : Player) : Type 0 where
  pub fair : Fair q
  pub clocks : q.clocks < count_bound

-- the words of 24 slices
pub record Words (at rs ps os : List ℕ) : Type 0 where
  pub attributes : length at ≡ attribute_words * most_slices
  pub registers : length rs ≡ register_words * most_slices
  pub ports : length ps ≡ port_words * most_slices
  pub outputs : length os ≡ output_words * most_slices

-- and the bytes of a line
pub record Frames (at rs ps os bytes : List ℕ) : Type 0 where
  pub words : Words at rs ps os
  pub line : length bytes ≡ most_bytes

-- ---- what the lines leave

-- an `A` line's numbers, read into a slice's words
pub record SettingsRead (line : List ℕ) (r : Bool) (into' : List ℕ) : Type 0 where
  pub well : r ≡ is_well (settings_line line)
  pub words : into' ≡ words_of attribute_words (settings_line line)

pub record SettingsTaken (q : Player) (line at : List ℕ) (r : Step) (at' : List ℕ) : Type 0 where
  pub words : at' ≡ placed attribute_words q (settings_line line) at
  pub step : r ≡ group_step q (is_well (settings_line line)) (settings_step q (settings_of q at'))

pub record PortsTaken (q : Player) (line at rs ps os : List ℕ) (r : Step) (rs' ps' os' : List ℕ) : Type 0 where
  pub ports : ps' ≡ placed port_words q (line_of letter_p port_words line) ps
  pub step : r ≡ group_step q (is_well (line_of letter_p port_words line)) (clock_step q (clock_of q at rs ps' os) (clocked_outputs q at rs ps' os))
  pub registers : rs' ≡ cond (is_well (line_of letter_p port_words line) && last_of_group q) (clocked_registers q at rs ps' os) rs
  pub outputs : os' ≡ cond (is_well (line_of letter_p port_words line) && last_of_group q) (clocked_outputs q at rs ps' os) os

-- ---- what a byte and a piece leave

abbrev pub playing : Player → (at rs ps os line : List ℕ) → Play
playing q at rs ps os line = record { player = q; attributes = at; registers = rs; ports = ps; outputs = os; line = line }

-- bytes that join a line: how many, and the line then
pub record Gathered : Type 0 where
  pub count : ℕ
  pub line : List ℕ

abbrev pub one_more_byte : Gathered → Gathered
one_more_byte g = record { count = suc g.count; line = g.line }

-- the bytes of a text that join a line of which held bytes are known: those before a newline, as far as the line has room
abbrev pub gathering : (held : ℕ) → (line text : List ℕ) → Gathered
gathering held line [] = record { count = 0; line = line }
gathering held line (b ∷ bs) =
    cond (eqb b newline || eqb held most_bytes) (record { count = 0; line = line }) (one_more_byte (gathering (held + 1) (set line held b) bs))

-- those of a piece from a place on
pub record Joined (piece : List ℕ) (from held : ℕ) (line : List ℕ) (r : ℕ) (line' : List ℕ) : Type 0 where
  pub count : r ≡ (gathering held line (drop from piece)).count
  pub bytes : line' ≡ (gathering held line (drop from piece)).line
  pub within : from + r ≤ length piece
  pub room : held + r ≤ most_bytes
  -- the byte that they end at is a newline, or one too many
  pub ends : from + r < length piece → (get_or piece (from + r) 0 ≡ newline → ⊥) → held + r ≡ most_bytes

-- a stretch of bytes: the player after it, how many bytes there are, and the line then
pub record Stretch : Type 0 where
  pub player : Player
  pub count : ℕ
  pub line : List ℕ

abbrev pub joining : Player → Gathered → Stretch
joining q g = record { player = longer g.count q; count = g.count; line = g.line }

-- those that join the line; where no line is due all of them, and they do nothing
abbrev pub stretch_of : Player → (line text : List ℕ) → Stretch
stretch_of q line text =
    cond (working q.phase) (joining q (gathering q.held line text)) (record { player = q; count = length text; line = line })

-- the stretch of a piece from a place on
pub record Reaches (q : Player) (piece : List ℕ) (from : ℕ) (line : List ℕ) (r : Reach) (line' : List ℕ) : Type 0 where
  pub player : r.player ≡ (stretch_of q line (drop from piece)).player
  pub used : r.used ≡ from + (stretch_of q line (drop from piece)).count
  pub bytes : line' ≡ (stretch_of q line (drop from piece)).line
  pub within : r.used ≤ length piece
  pub held : r.player.held ≤ most_bytes
  -- the byte that it ends at is a newline, or one too many
  pub works : r.used < length piece → working r.player.phase ≡ true
  pub full : r.used < length piece → (get_or piece r.used 0 ≡ newline → ⊥) → r.player.held ≡ most_bytes

-- the player that a stretch leaves can take the byte that it ends at
pub record Ending (q : Player) (b : ℕ) : Type 0 where
  pub able : Able q 1
  pub works : working q.phase ≡ true
  pub full : (b ≡ newline → ⊥) → q.held ≡ most_bytes

pub record Ran (p : Play) (piece out : List ℕ) (r : Run) (p' : Play) (out' : List ℕ) : Type 0 where
  pub part : r.used ≤ length piece
  pub room : r.made ≤ length out
  pub used : r.used ≡ (played (length out) p piece).used
  pub play : p' ≡ (played (length out) p piece).play
  pub says : Put 0 (played (length out) p piece).says out r.made out'
