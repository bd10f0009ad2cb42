-- A turn of the loop that plays a piece. Assumes nothing.
use mathlib.Core.Path.{◌≡◌, refl, sym, ap, subst}
use mathlib.Core.Bool.{Bool, true, false, cond}
use mathlib.Core.List.{List}
use Prim.Native.Nat.{ℕ, ◌+◌, ◌-◌, ◌<◌, ◌≤◌}
use native.Mathlib.Omega.{arith}
use lib.ListN.{length, take, drop, get_or}
use Rattle.text.specs.Printed.{Put}
use Rattle.event.specs.Events.{bytes_of}
use Rattle.player.specs.declared.Player.{Player}
use Rattle.listing.specs.declared.steps.Step.{Step}
use Rattle.listing.specs.declared.machine.Reach.{Reach}
use Rattle.player.specs.Limits.{most_slices}
use Rattle.listing.specs.Limits.{clock_room}
use Rattle.player.specs.Numbers.{working}
use Rattle.listing.specs.Listing.{Play, Turn, leaving, turn_of, turn_bytes, byte_turn}
use Rattle.listing.specs.Calls.{Outcome, played}
use Rattle.listing.specs.Parts.{Able, playing, gathering, joining, stretch_of, Reaches, Ran}
use Rattle.listing.proofs.Printing.{event_length}
use Rattle.listing.proofs.Keeps.{byte_goes}
use Rattle.listing.proofs.Pieces.{SoFar, one_byte, one_stretch, all_taken, no_room, printed_so_far}

-- there is room for one line and one clock more
pub able_one : (q : Player) (n used : ℕ) → Able q (n - used) → used < n → Able q 1
able_one q n used a h = record { fair = a.fair; clocks = omega (arith, a.clocks); lines = omega (arith, a.lines) }

module _ (q : Player) (at rs ps os line : List ℕ) (b : ℕ) (r : Step) (at' rs' ps' os' line' : List ℕ)
    (turned : turn_of (leaving r at' rs' ps' os') line' ≡ byte_turn (playing q at rs ps os line) b) where
  pub next_able : (n used : ℕ) → used < n → Able q (n - used) → Able r.player (n - (used + 1))
  next_able n used h a =
      subst (λ (p : Player). Able p (n - (used + 1))) (sym (ap (λ (t : Turn). t.play.player) turned))
      (byte_goes (playing q at rs ps os line) b (n - (used + 1))
      (record { fair = a.fair; clocks = omega (arith, a.clocks); lines = omega (arith, a.lines) }))

module _ (p₀ : Play) (piece out₀ : List ℕ) (q : Player) (at rs ps os line : List ℕ) (used made : ℕ) (out : List ℕ)
    (s : SoFar p₀ piece out₀ (playing q at rs ps os line) used made out) where
  pub next_so_far : (r : Step) (at' rs' ps' os' line' : List ℕ)
      → turn_of (leaving r at' rs' ps' os') line' ≡ byte_turn (playing q at rs ps os line) (get_or piece used 0)
      → r.player.count ≤ most_slices → used < length piece → clock_room ≤ length out - made → (made' : ℕ) (out' : List ℕ)
      → Put made (bytes_of r.event r.player.count os') out made' out' → length out' ≡ length out
      → SoFar p₀ piece out₀ (playing r.player at' rs' ps' os' line') (used + 1) made' out'
  next_so_far r at' rs' ps' os' line' turned few h room made' out' put kept =
      let says : bytes_of r.event r.player.count os' ≡ turn_bytes (byte_turn (playing q at rs ps os line) (get_or piece used 0)) = ap turn_bytes turned in
      subst (λ (p : Play). SoFar p₀ piece out₀ p (used + 1) made' out') (sym (ap (λ (t : Turn). t.play) turned))
      (one_byte p₀ piece out₀ (playing q at rs ps os line) used made out s h room made' out'
      (subst (λ (bs : List ℕ). length bs ≤ clock_room) says (event_length r.event r.player.count os' few))
      (subst (λ (bs : List ℕ). Put made bs out made' out') says put)
      kept)

  -- where the loop ends, no byte is left or no room
  ran : played (length out₀) p₀ piece ≡ record { used = used; play = playing q at rs ps os line; says = take made out }
      → Ran p₀ piece out₀ (record { player = q; used = used; made = made }) (playing q at rs ps os line) out
  ran e =
      record {
        part = s.within;
        room = omega (arith, s.room, s.long);
        used = sym (ap (λ (o : Outcome). o.used) e);
        play = sym (ap (λ (o : Outcome). o.play) e);
        says =
            subst (λ (bs : List ℕ). Put 0 bs out₀ made out) (sym (ap (λ (o : Outcome). o.says) e))
            (printed_so_far p₀ piece out₀ (playing q at rs ps os line) used made out s);
      }

  pub all_ran : length piece ≤ used → Ran p₀ piece out₀ (record { player = q; used = used; made = made }) (playing q at rs ps os line) out
  all_ran h = ran (all_taken p₀ piece out₀ (playing q at rs ps os line) used made out s h)

  pub room_ran : length out - made < clock_room → Ran p₀ piece out₀ (record { player = q; used = used; made = made }) (playing q at rs ps os line) out
  room_ran h = ran (no_room p₀ piece out₀ (playing q at rs ps os line) used made out s h)

  -- a stretch of bytes more
  pub reach_so_far : clock_room ≤ length out - made → (r : Reach) (line' : List ℕ) → Reaches q piece used line r line'
      → SoFar p₀ piece out₀ (playing r.player at rs ps os line') r.used made out
  reach_so_far room r line' d =
      let x = stretch_of q line (drop used piece) in
      let more : SoFar p₀ piece out₀ (playing x.player at rs ps os x.line) (used + x.count) made out =
      one_stretch p₀ piece out₀ (playing q at rs ps os line) used made out s room (omega (arith, d.used, d.within)) in
      rw (d.player, d.used, d.bytes) more

-- the player that a stretch leaves can take the bytes that are left
pub reach_able : (q : Player) (piece : List ℕ) (used : ℕ) (line : List ℕ) (r : Reach) (line' : List ℕ) → Reaches q piece used line r line'
    → Able q (length piece - used) → Able r.player (length piece - r.used)
reach_able q piece used line r line' d a =
    let more = go (working q.phase) in
    record {
      fair = record {
        count = rw (d.player, more.0) a.fair.count;
        given = rw (d.player, more.1) a.fair.given;
        held = d.held;
      };
      clocks = rw (d.player, more.2) (omega (arith, a.clocks, d.used));
      lines = rw (d.player, more.3) (omega (arith, a.lines, d.used));
    }
  where
    go : (t : Bool)
        → (let x = (cond t (joining q (gathering q.held line (drop used piece))) (record { player = q; count = length (drop used piece); line = line })).player in
        (x.count ≡ q.count) × (x.given ≡ q.given) × (x.clocks ≡ q.clocks) × (x.lines ≡ q.lines))
    go true = (refl, refl, refl, refl)
    go false = (refl, refl, refl, refl)
