-- What `finish` leaves, from its tests. Assumes nothing.
use mathlib.Core.Path.{◌≡◌, subst}
use mathlib.Core.List.{List, []}
use Prim.Native.Nat.{ℕ, ◌-◌, ◌<◌}
use native.Mathlib.Omega.{arith}
use lib.ListN.{length}
use borrow.Author.Tests.{eq-eqb, ne_eqb, lt-ltb}
use Rattle.text.specs.Printed.{Put}
use Rattle.text.proofs.Paste.{put_none}
use Rattle.event.specs.declared.Event.{Event}
use Rattle.event.specs.Events.{bytes_within}
use Rattle.event.proofs.Printing.{within_room}
use Rattle.player.specs.Limits.{count_bound}
use Rattle.listing.specs.Steps.{end_of}
use Rattle.player.specs.Numbers.{player_numbers, player_of}
use Rattle.listing.specs.Calls.{end_bytes, Finished}

module _ (ns out : List ℕ) where
  unsaid : end_bytes ns out ≡ [] → Finished ns out 0 out
  unsaid e = record { says = rw e (put_none 0 out); room = omega arith }

  pub no_player : (length ns ≡ player_numbers → ⊥) → Finished ns out 0 out
  unfolding end_bytes
  no_player h = unsaid (rw (ne_eqb (length ns) player_numbers h))

  module _ (h : length ns ≡ player_numbers) where
    pub no_line : (player_of ns).lines ≡ count_bound → Finished ns out 0 out
    unfolding end_bytes
    no_line e = unsaid (rw (eq-eqb (length ns) player_numbers h, e))

    pub ended : (player_of ns).lines < count_bound → (e : Event) → e ≡ end_of (player_of ns) → (r : ℕ) (out' : List ℕ)
        → Put 0 (bytes_within e 0 [] 0 out) out r out' → Finished ns out r out'
    unfolding end_bytes
    ended l e f r out' p =
        record {
          says =
              rw (eq-eqb (length ns) player_numbers h, lt-ltb 0 (count_bound - (player_of ns).lines) (omega arith))
              (subst (λ (x : Event). Put 0 (bytes_within x 0 [] 0 out) out r out') f p);
          room = omega (arith, p.ends, within_room e 0 [] 0 out);
        }
