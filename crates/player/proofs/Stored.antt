-- The player's numbers as lent words. Assumes nothing.
use mathlib.Core.Path.{◌≡◌, refl, ap, ◌∙◌}
use mathlib.Core.List.{List}
use Prim.Native.Nat.{ℕ}
use native.Mathlib.Omega.{arith}
use lib.ListN.{length}
use Rattle.lent.specs.Words.{enough, stored}
use Rattle.lent.proofs.Laws.{enough_all, stored_all}
use Rattle.player.specs.declared.Phase.{Phase}
use Rattle.player.specs.declared.Phase.TheVariants.{Head, Settings, Clocks, Stopped}
use Rattle.player.specs.declared.Shows.{Shows}
use Rattle.player.specs.declared.Shows.TheVariants.{Outputs, FirstMatch}
use Rattle.player.specs.declared.Player.{Player}
use Rattle.player.specs.Numbers.{phase_number, phase_of, shows_number, watched, shows_of, player_numbers, player_of, player_words}

phase_back : (f : Phase) → phase_of (phase_number f) ≡ f
phase_back Head = refl
phase_back Settings = refl
phase_back Clocks = refl
phase_back Stopped = refl

shows_back : (s : Shows) → shows_of (shows_number s) (watched s) ≡ s
shows_back Outputs = refl
shows_back (FirstMatch slice) = refl

-- a player is the one that its words are read as
pub player_back : (q : Player) → player_of (player_words q) ≡ q
player_back q = rw (phase_back q.phase, shows_back q.shows)

-- where as many words are lent, the player is read of all of them, and stored in them
pub read_whole : (ns : List ℕ) → length ns ≡ player_numbers → {q : Player} → q ≡ player_of (enough player_numbers ns) → q ≡ player_of ns
read_whole ns h e = e ∙ ap player_of (enough_all player_numbers ns (omega arith))

pub stored_whole : (ns : List ℕ) → length ns ≡ player_numbers → (q : Player) {ns' : List ℕ} → ns' ≡ stored ns (player_words q) → ns' ≡ player_words q
stored_whole ns h q e = e ∙ stored_all ns (player_words q) h
