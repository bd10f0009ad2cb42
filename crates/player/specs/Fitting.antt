-- What is lent is a player's. Assumes nothing.
use Rattle.std.specs.Prelude.{ℕ, ◌*◌, ◌-◌, Bool, ◌&&◌, List, eqb, leb, ltb, length}
use Rattle.records.specs.Records.{attribute_words, register_words, port_words, output_words}
use Rattle.text.specs.Bytes.{most_bytes}
use Rattle.player.specs.declared.Player.{Player}
use Rattle.player.specs.Limits.{most_slices, count_bound}
use Rattle.player.specs.Numbers.{player_numbers, player_of}

-- the counts are in range, and have room for n lines and n clocks more
abbrev pub numbers_fit : (n : ℕ) → Player → Bool
numbers_fit n q =
    leb q.count most_slices
    && ltb q.given most_slices
    && leb q.held most_bytes
    && ltb n (count_bound - q.clocks)
    && ltb n (count_bound - q.lines)

-- the words of 24 slices, and the bytes of a line
abbrev pub lengths_fit : (attributes registers ports outputs line : ℕ) → Bool
lengths_fit attributes registers ports outputs line =
    eqb attributes (attribute_words * most_slices)
    && eqb registers (register_words * most_slices)
    && eqb ports (port_words * most_slices)
    && eqb outputs (output_words * most_slices)
    && eqb line most_bytes

-- the numbers, and how many words and bytes are lent, are a player's, for a piece of n bytes
unfoldable pub fits : (n : ℕ) → (numbers : List ℕ) → (attributes registers ports outputs line : ℕ) → Bool
fits n ns attributes registers ports outputs line =
    eqb (length ns) player_numbers && lengths_fit attributes registers ports outputs line && numbers_fit n (player_of ns)
