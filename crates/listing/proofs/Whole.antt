-- However a text is cut into pieces, whatever room each piece finds, and whether its caller stops at a refusal or plays on, what is printed
-- is the listing of the whole. Assumes nothing.
use mathlib.Core.Path.{◌≡◌, refl, sym, ap, ap₂, ◌∙◌, subst}
use mathlib.Core.Bool.{Bool, true, false, cond}
use mathlib.Core.List.{List, [], ◌∷◌, ◌++◌, append_assoc, append-nil}
use Prim.Native.Nat.{ℕ, ◌+◌, ◌-◌, ◌<◌, ◌≤◌}
use native.Mathlib.Nat.{zero-add}
use native.Mathlib.Omega.{arith}
use lib.Dec.{leb}
use lib.ListN.{length, take, drop, length-append, length-drop}
use lib.Seq.{take_at}
use borrow.Author.Tests.{lt-ltb}
use Rattle.text.specs.Printed.{Put}
use Rattle.event.specs.Events.{bytes_of, line_room}
use Rattle.event.proofs.Printing.{event_fits_lem}
use Rattle.player.specs.declared.Phase.{Phase}
use Rattle.player.specs.declared.Phase.TheVariants.{Head, Settings, Clocks, Stopped}
use Rattle.listing.specs.declared.Played.{Played}
use Rattle.player.specs.Limits.{count_bound}
use Rattle.listing.specs.Limits.{clock_room}
use Rattle.listing.specs.Steps.{end_in, end_of}
use Rattle.player.specs.Numbers.{working}
use Rattle.listing.specs.Listing.{Play, turn_bytes, byte_turn, start, end_says, listing_from, listing}
use Rattle.listing.specs.Calls.{Lent, lent_of, fits, nothing, further, played, lent_after, goes_after, outcome_of, PiecePlayed, end_bytes, Finished}
use Rattle.listing.specs.Parts.{Able}
use Rattle.listing.proofs.Pieces.{stopped_turn}
use Rattle.player.proofs.Stored.{player_back}
use Rattle.listing.proofs.Lasting.{Good, piece_lasts, lent_back, good_fits, start_good}

-- a piece, of which as much is taken as there is room for, and what follows it
pub cut : (room : ℕ) (p : Play) (piece more : List ℕ)
    → listing_from p (piece ++ more)
    ≡ (played room p piece).says ++ listing_from (played room p piece).play (drop (played room p piece).used piece ++ more)
cut room p [] more = refl
cut room p (b ∷ bs) more = go (leb clock_room room) (cut (room - length (turn_bytes (byte_turn p b))) (byte_turn p b).play bs more)
  where
    go : (r : Bool) → (let t = byte_turn p b in
        let o = played (room - length (turn_bytes t)) t.play bs in
        listing_from t.play (bs ++ more) ≡ o.says ++ listing_from o.play (drop o.used bs ++ more)
        → turn_bytes t ++ listing_from t.play (bs ++ more)
        ≡ (cond r (further t o) (nothing p)).says
        ++ listing_from (cond r (further t o) (nothing p)).play (drop (cond r (further t o) (nothing p)).used (b ∷ bs) ++ more))
    go true e =
        let t = byte_turn p b in
        let o = played (room - length (turn_bytes t)) t.play bs in
        ap (λ (l : List ℕ). turn_bytes t ++ l) e ∙ sym (append_assoc (turn_bytes t) o.says (listing_from o.play (drop o.used bs ++ more)))
    go false e = refl

-- a refused listing prints nothing more, whatever follows
pub stopped_silent : (p : Play) (text : List ℕ) → working p.player.phase ≡ false → listing_from p text ≡ []
unfolding end_says end_of
stopped_silent p [] stopped = go p.player.phase stopped
  where
    go : (f : Phase) → working f ≡ false → bytes_of (end_in f p.player) 0 [] ≡ []
    go Head e = let z : ◌≡◌ {A = Bool} true false = e in cc
    go Settings e = let z : ◌≡◌ {A = Bool} true false = e in cc
    go Clocks e = let z : ◌≡◌ {A = Bool} true false = e in cc
    go Stopped e = refl
stopped_silent p (b ∷ bs) stopped = rw (stopped_turn p b stopped) (stopped_silent p bs stopped)

-- a bench's calls, one after the other, from what it has lent: the text that it has still to play, and the bytes that it gets. A piece
-- is any front of the text, out any bytes; of a piece that was not taken whole the rest is played next. It ends with the text, or where
-- there is no more to play, whatever the text that is left
pub data Bench : Lent → (text : List ℕ) → (bytes : List ℕ) → Type 0 where
  call : {l : Lent} (piece more : List ℕ) {out : List ℕ} {r : Played} {l' : Lent} {out' bytes : List ℕ} → PiecePlayed piece l out r l' out'
      → Bench l' (drop r.used piece ++ more) bytes → Bench l (piece ++ more) (take r.made out' ++ bytes)
  stops : {l : Lent} (piece more : List ℕ) {out : List ℕ} {r : Played} {l' : Lent} {out' : List ℕ} → PiecePlayed piece l out r l' out'
      → r.goes ≡ false → Bench l (piece ++ more) (take r.made out')
  ends : {l : Lent} {out : List ℕ} {r : ℕ} {out' : List ℕ} → line_room ≤ length out → Finished l.numbers out r out' → Bench l [] (take r out')

-- the bytes that were put from the front on
front_of : (bs out : List ℕ) (r : ℕ) (out' : List ℕ) → Put 0 bs out r out' → take r out' ≡ bs
front_of bs out r out' p =
    let e : r ≡ length bs = p.ends ∙ zero-add (length bs) in
    ap₂ take e p.bytes ∙ take_at bs (drop (0 + length bs) out) (length bs) refl

-- what a call makes of a play and a piece
record Called (p : Play) (piece out : List ℕ) (r : Played) (l' : Lent) (out' : List ℕ) : Type 0 where
  pub used : r.used ≡ (played (length out) p piece).used
  pub lent : l' ≡ lent_of (played (length out) p piece).play
  pub says : take r.made out' ≡ (played (length out) p piece).says
  pub goes : r.goes ≡ working (played (length out) p piece).play.player.phase

-- one call, from a play that its lent words are
module _ (p : Play) (n : ℕ) (g : Good p n) where
  pub fitting : (piece : List ℕ) → length piece ≤ n → fits (length piece) (lent_of p) ≡ true
  fitting piece h =
      let able : Able p.player (length piece) = record { fair = g.able.fair; clocks = omega (arith, g.able.clocks); lines = omega (arith, g.able.lines) } in
      good_fits p (length piece) (record { able = able; frames = g.frames })

  called : {piece out : List ℕ} {r : Played} {l' : Lent} {out' : List ℕ} → length piece ≤ n → PiecePlayed piece (lent_of p) out r l' out' → Called p piece out r l' out'
  unfolding outcome_of lent_after goes_after
  called {piece} {out} {r} {l'} {out'} h d =
      let fit = fitting piece h in
      record {
        used = rw (fit, lent_back p) at d.used;
        lent = rw (fit, lent_back p) at d.lent;
        says = rw (fit, lent_back p) at (front_of _ out r.made out' d.says);
        goes = rw (fit, lent_back p) at d.goes;
      }

  finished : {out : List ℕ} {r : ℕ} {out' : List ℕ} → line_room ≤ length out → Finished (lent_of p).numbers out r out' → take r out' ≡ end_says p.player
  unfolding end_bytes end_says lent_of
  finished {out} {r} {out'} room d =
      rw (
        player_back p.player,
        lt-ltb 0 (count_bound - p.player.lines) (omega (arith, g.able.lines)),
        event_fits_lem (end_of p.player) 0 [] 0 out (omega arith) (omega arith),
      )
      at (front_of _ out r out' d.says)

-- the calls of a bench print the listing of its text
bench_plays : {l : Lent} {text bytes : List ℕ} → Bench l text bytes → (p : Play) (n : ℕ) → Good p n → length text ≤ n → l ≡ lent_of p
    → bytes ≡ listing_from p text
bench_plays (ends {l} {out} {r} {out'} room d) p n g h e =
    finished p n g room (subst (λ (x : Lent). Finished x.numbers out r out') e d)
bench_plays (stops {l} piece more {out} {r} {l'} {out'} d stopped) p n g h e =
    let part : length piece ≤ n = omega (arith, length-append piece more) in
    let o = played (length out) p piece in
    let did = called p n g part (subst (λ (x : Lent). PiecePlayed piece x out r l' out') e d) in
    did.says
    ∙ sym (append-nil o.says)
    ∙ ap (λ (rest : List ℕ). o.says ++ rest) (sym (stopped_silent o.play (drop o.used piece ++ more) (sym did.goes ∙ stopped)))
    ∙ sym (cut (length out) p piece more)
bench_plays (call {l} piece more {out} {r} {l'} {out'} {bytes} d next) p n g h e =
    let part : length piece ≤ n = omega (arith, length-append piece more) in
    let o = played (length out) p piece in
    let did = called p n g part (subst (λ (x : Lent). PiecePlayed piece x out r l' out') e d) in
    let text : drop r.used piece ++ more ≡ drop o.used piece ++ more = ap (λ (k : ℕ). drop k piece ++ more) did.used in
    let short : length (drop r.used piece ++ more) ≤ n - o.used =
    simp (length-append, length-drop) (omega (arith, length-append piece more, did.used, d.part)) in
    ap₂ (λ (a b : List ℕ). a ++ b) did.says
    (bench_plays next o.play (n - o.used) (piece_lasts (length out) p piece n part g) short did.lent
    ∙ ap (listing_from o.play) text)
    ∙ sym (cut (length out) p piece more)

-- from the lent zeros on, whatever the pieces and the room, and whether the bench stops at a refusal or plays on
pub pieces_play_the_listing : {text bytes : List ℕ} → length text < count_bound → Bench (lent_of start) text bytes → bytes ≡ listing text
unfolding listing
pieces_play_the_listing {text} h s = bench_plays s start (length text) (start_good (length text) h) (omega arith) refl
