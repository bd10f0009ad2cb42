-- A caller that reads a text piece after piece, and stops where there is no more to play: its calls come to an end, and what they print is
-- the listing of the text. Assumes nothing.
use mathlib.Core.Path.{◌≡◌, refl, sym, subst}
use mathlib.Core.Bool.{Bool, true, false, cond, ◌&&◌}
use mathlib.Core.List.{List, [], ◌∷◌, ◌++◌}
use Prim.Native.Nat.{ℕ, zero, suc, ◌+◌, ◌-◌, ◌<◌, ◌≤◌}
use native.Mathlib.Nat.{zero-add}
use native.Mathlib.Omega.{arith}
use lib.Dec.{leb, ltb, eqb}
use lib.ListN.{length, take, drop, set, length-append, length-take, length-drop, take-append-drop}
use borrow.Author.Tests.{le-leb, leb-true}
use Rattle.text.specs.Bytes.{newline, most_bytes}
use Rattle.text.specs.Printed.{pasted, Put}
use Rattle.event.specs.Events.{bytes_within}
use Rattle.event.proofs.Printing.{within_room}
use Rattle.listing.specs.declared.Played.{Played}
use Rattle.player.specs.Limits.{most_slices, count_bound}
use Rattle.listing.specs.Limits.{clock_room}
use Rattle.player.specs.Numbers.{working}
use Rattle.listing.specs.Listing.{Play, Turn, Left, line_leaves, turn_of, stepping, turn_bytes, byte_turn, line_turn, part_turn, start, listing}
use Rattle.listing.specs.Steps.{counted, longer, goes_on, refusal, end_of}
use Rattle.player.specs.Numbers.{player_numbers, player_of}
use Rattle.listing.specs.Calls.{Lent, play_of, lent_of, fits, Outcome, nothing, further, played, lent_after, goes_after, outcome_of, PiecePlayed, end_bytes, Finished}
use Rattle.listing.proofs.Printing.{event_length}
use Rattle.listing.proofs.Lasting.{Good, byte_lasts, piece_lasts, lent_back, start_good}
use Rattle.listing.proofs.Whole.{Bench, call, stops, ends, fitting, pieces_play_the_listing}

-- ---- a call takes a byte at least

some_taken : (room : ℕ) (p : Play) (piece : List ℕ) → clock_room ≤ room → 0 < length piece → 0 < (played room p piece).used
some_taken room p [] h some = let z : ⊥ = omega arith in absurd z
some_taken room p (b ∷ bs) h some = rw (le-leb clock_room room h) (omega arith)

-- where a player is lent, the piece has a byte and out has room for a clock: so a caller that goes on with what is left comes to an end
pub takes_one : {piece : List ℕ} {l : Lent} {out : List ℕ} {r : Played} {l' : Lent} {out' : List ℕ} → PiecePlayed piece l out r l' out'
    → fits (length piece) l ≡ true → 0 < length piece → clock_room ≤ length out → 0 < r.used
unfolding outcome_of
takes_one {piece} {l} {out} d fit some room = rw (d.used, fit) (some_taken (length out) (play_of l) piece room some)

-- ---- a call that there is

-- what a byte prints has room in a clock's
abbrev Short : Turn → Type 0
Short t = t.play.player.count ≤ most_slices → length (turn_bytes t) ≤ clock_room

told : (l : Left) (line : List ℕ) → Short (turn_of l line)
told l line few = event_length l.step.event l.step.player.count l.outputs few

either : (t : Bool) (u v : Turn) → Short u → Short v → Short (cond t u v)
either true u v f g = f
either false u v f g = g

turn_length : (p : Play) (b : ℕ) → Short (byte_turn p b)
unfolding byte_turn
turn_length p b =
    let q = p.player in
    let line = line_leaves q.phase (counted q) (take q.held p.line) p.attributes p.registers p.ports p.outputs in
    either (working q.phase) _ _
    (either (eqb b newline) (line_turn p) (part_turn p b) (told line p.line)
    (either (eqb q.held most_bytes) _ _ (told (stepping (refusal q 12 (q.lines + 1)) p) p.line)
    (told (stepping (goes_on (longer 1 q)) p) (set p.line q.held b))))
    (told (stepping (goes_on q) p) p.line)

-- and what a piece prints has room in out
says_fit : (room : ℕ) (p : Play) (piece : List ℕ) (n : ℕ) → length piece ≤ n → Good p n → length (played room p piece).says ≤ room
says_fit room p [] n h g = omega arith
says_fit room p (b ∷ bs) zero h g = let z : ⊥ = omega arith in absurd z
says_fit room p (b ∷ bs) (suc n) h g =
    go (leb clock_room room) refl
    (says_fit (room - length (turn_bytes (byte_turn p b))) (byte_turn p b).play bs n (omega arith) (byte_lasts p b n g))
  where
    go : (r : Bool) → leb clock_room room ≡ r → (let o = played (room - length (turn_bytes (byte_turn p b))) (byte_turn p b).play bs in
        length o.says ≤ room - length (turn_bytes (byte_turn p b)) → length (cond r (further (byte_turn p b) o) (nothing p)).says ≤ room)
    go true e rest =
        let short = turn_length p b (byte_lasts p b n g).able.fair.count in
        let o = played (room - length (turn_bytes (byte_turn p b))) (byte_turn p b).play bs in
        rw (length-append (turn_bytes (byte_turn p b)) o.says) (omega (arith, short, leb-true clock_room room e))
    go false e rest = omega arith

-- no more bytes are taken than there are
used_within : (room : ℕ) (p : Play) (piece : List ℕ) → (played room p piece).used ≤ length piece
used_within room p [] = omega arith
used_within room p (b ∷ bs) = go (leb clock_room room) (used_within (room - length (turn_bytes (byte_turn p b))) (byte_turn p b).play bs)
  where
    go : (r : Bool) → (let o = played (room - length (turn_bytes (byte_turn p b))) (byte_turn p b).play bs in
        o.used ≤ length bs → (cond r (further (byte_turn p b) o) (nothing p)).used ≤ suc (length bs))
    go true h = omega arith
    go false h = omega arith

-- bytes put from the front on
put_front : (bs out : List ℕ) → Put 0 bs out (length bs) (pasted 0 bs out)
put_front bs out = record { ends = sym (zero-add (length bs)); bytes = refl }

-- the answer to a piece
abbrev answer : Play → (piece out : List ℕ) → Played
answer p piece out =
    let o = played (length out) p piece in
    record { used = o.used; made = length o.says; goes = working o.play.player.phase }

answered : (p : Play) (n : ℕ) → Good p n → (piece out : List ℕ) → length piece ≤ n
    → (let o = played (length out) p piece in PiecePlayed piece (lent_of p) out (answer p piece out) (lent_of o.play) (pasted 0 o.says out))
unfolding outcome_of lent_after goes_after
answered p n g piece out h =
    let o = played (length out) p piece in
    let fit = fitting p n g piece h in
    record {
      used = rw (fit, lent_back p);
      goes = rw (fit, lent_back p);
      says = rw (fit, lent_back p) (put_front o.says out);
      lent = rw (fit, lent_back p);
      part = used_within (length out) p piece;
      room = says_fit (length out) p piece n h g;
    }

-- and to the end
ended : (numbers out : List ℕ) → Finished numbers out (length (end_bytes numbers out)) (pasted 0 (end_bytes numbers out) out)
unfolding end_bytes
ended ns out =
    record {
      says = put_front (end_bytes ns out) out;
      room = go (eqb (length ns) player_numbers && ltb 0 (count_bound - (player_of ns).lines)) (within_room (end_of (player_of ns)) 0 [] 0 out);
    }
  where
    go : (t : Bool) → length (bytes_within (end_of (player_of ns)) 0 [] 0 out) ≤ length out - 0
        → length (cond t (bytes_within (end_of (player_of ns)) 0 [] 0 out) []) ≤ length out
    go true h = omega arith
    go false h = omega arith

-- ---- the caller

-- what it does with the text that is left: it reads so many bytes, one at least where there is one, and lends out, which has room for a
-- clock
pub record Caller : Type 0 where
  pub reads : (text : List ℕ) → ℕ
  pub out : (text : List ℕ) → List ℕ
  pub some : (text : List ℕ) → 0 < reads text
  pub room : (text : List ℕ) → clock_room ≤ length (out text)

-- its calls, and the bytes that it gets: it goes on with what is left of the text, stops where there is no more to play, and finishes where
-- the text ends
pub data Reads (c : Caller) : Lent → (text bytes : List ℕ) → Type 0 where
  more : {l : Lent} {text : List ℕ} {r : Played} {l' : Lent} {out' bytes : List ℕ} → 0 < length text
      → PiecePlayed (take (c.reads text) text) l (c.out text) r l' out' → r.goes ≡ true
      → Reads c l' (drop r.used (take (c.reads text) text) ++ drop (c.reads text) text) bytes → Reads c l text (take r.made out' ++ bytes)
  stop : {l : Lent} {text : List ℕ} {r : Played} {l' : Lent} {out' : List ℕ} → 0 < length text
      → PiecePlayed (take (c.reads text) text) l (c.out text) r l' out' → r.goes ≡ false → Reads c l text (take r.made out')
  end : {l : Lent} {r : ℕ} {out' : List ℕ} → Finished l.numbers (c.out []) r out' → Reads c l [] (take r out')

reads_bench : {c : Caller} {l : Lent} {text bytes : List ℕ} → Reads c l text bytes → Bench l text bytes
reads_bench {c} (more {l} {text} {r} {l'} {out'} {bytes} some d goes rest) =
    subst (λ (t : List ℕ). Bench l t (take r.made out' ++ bytes)) (take-append-drop (c.reads text) text)
    (call (take (c.reads text) text) (drop (c.reads text) text) d (reads_bench rest))
reads_bench {c} (stop {l} {text} {r} {l'} {out'} some d goes) =
    subst (λ (t : List ℕ). Bench l t (take r.made out')) (take-append-drop (c.reads text) text)
    (stops (take (c.reads text) text) (drop (c.reads text) text) d goes)
reads_bench {c} (end d) = ends {out = c.out []} (omega (arith, c.room [])) d

-- what it gets is the listing of its text, be that refused or not
pub callers_get_the_listing : {c : Caller} {text bytes : List ℕ} → length text < count_bound → Reads c (lent_of start) text bytes → bytes ≡ listing text
callers_get_the_listing h calls = pieces_play_the_listing h (reads_bench calls)

-- the calls, and the bytes, from what is lent
pub record Served (c : Caller) (l : Lent) (text : List ℕ) : Type 0 where
  pub bytes : List ℕ
  pub calls : Reads c l text bytes

-- one call, and then those for what is left, which is less
one_served : (c : Caller) (p : Play) (n : ℕ) (text : List ℕ) → length text ≤ n → Good p n
    → ((p' : Play) (n' : ℕ) (rest : List ℕ) → length rest < length text → length rest ≤ n' → Good p' n' → Served c (lent_of p') rest)
    → Served c (lent_of p) text
one_served c p n [] h g next = record { bytes = _; calls = end (ended (lent_of p).numbers (c.out [])) }
one_served c p n (b ∷ bs) h g next =
    go (working o.play.player.phase) refl
    (next o.play (n - o.used) rest (omega (arith, left, some_taken (length out) p piece (c.room text) some)) (omega (arith, left))
    (piece_lasts (length out) p piece n (omega (arith, long)) g))
  where
    text : List ℕ
    text = b ∷ bs

    piece : List ℕ
    piece = take (c.reads text) text

    out : List ℕ
    out = c.out text

    o : Outcome
    o = played (length out) p piece

    long : length piece ≤ length text
    long = omega (arith, length-take (c.reads text) text)

    some : 0 < length piece
    some = omega (arith, length-take (c.reads text) text, c.some text)

    did : PiecePlayed piece (lent_of p) out (answer p piece out) (lent_of o.play) (pasted 0 o.says out)
    did = answered p n g piece out (omega (arith, long))

    rest : List ℕ
    rest = drop o.used piece ++ drop (c.reads text) text

    left : length rest + o.used ≡ length text
    left =
        omega (
          arith,
          length-append (drop o.used piece) (drop (c.reads text) text),
          length-drop o.used piece,
          length-drop (c.reads text) text,
          length-take (c.reads text) text,
          used_within (length out) p piece,
        )

    go : (t : Bool) → working o.play.player.phase ≡ t → Served c (lent_of o.play) rest → Served c (lent_of p) text
    go false e next = record { bytes = _; calls = stop {text = text} (omega arith) did e }
    go true e next = record { bytes = _; calls = more {text = text} (omega arith) did e next.calls }

served : (c : Caller) (fuel : ℕ) (p : Play) (n : ℕ) (text : List ℕ) → length text ≤ fuel → length text ≤ n → Good p n → Served c (lent_of p) text
served c zero p n text f h g = one_served c p n text h g (λ p' n' rest l k g'. let z : ⊥ = omega arith in absurd z)
served c (suc fuel) p n text f h g = one_served c p n text h g (λ p' n' rest l k g'. served c fuel p' n' rest (omega arith) k g')

-- every text is played to its end by a caller's calls
pub every_text_is_served : (c : Caller) (text : List ℕ) → length text < count_bound → Served c (lent_of start) text
every_text_is_served c text h = served c (length text) start (length text) text (omega arith) (omega arith) (start_good (length text) h)
