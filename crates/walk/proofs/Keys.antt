-- The loop over a holder's frames, with its keys or members judged as they come.
use Rattle.std.specs.Prelude.{◌≡◌, Bool, true, false, ◌&&◌, ◌||◌, not, ℕ, ◌+◌, ◌-◌, ◌*◌, ◌≤◌, ◌<◌, List, Ok, Err, length, ltb, eqb}
use Rattle.std.proofs.Common.{refl, sym, ap, subst, ◌∙◌, arith, ltb-true, ltb-false}
use borrow.Author.Tests.{eqb-true, eqb-false}
use Rattle.meaning.specs.Choice.{pick}
use Rattle.meaning.specs.Prog.{run, done}
use Rattle.meaning.specs.ProgLaws.{When, gives-run, then}
use Rattle.meaning.specs.Kinds.{Profile, may_key, set_kind, marker_kind}
use Rattle.meaning.specs.Rows.{Node, node_of, Forest, end, item, frame_kind, keys_fit, may_hold, span, most_rows}
use Rattle.meaning.specs.RowsLaws.{span-join}
use Rattle.meaning.specs.Frames.{frame_p, frames_p, rest_p, holder}
use Rattle.meaning.specs.FramesLaws.{frame-fills}
use Rattle.meaning.specs.KeyLaws.{key_after, keys-join, key-join, OneFrame, one-fits, one-after, one-row, frame-one}
use Rattle.meaning.specs.RunLaws.{map_out, holder-run, over}
use Rattle.kinds.specs.Codes.{code_of}
use Rattle.kinds.specs.declared.kind.Kind.{Kind}
use Rattle.refusal.specs.declared.Refusal.{Refusal}
use Rattle.refusal.specs.declared.Stop.{Stop}
use Rattle.rows.specs.Put.{row_of}
use Rattle.text.specs.declared.cursor.Cursor.{Cursor}
use Rattle.heads.specs.Steps.{frames_of}
use Rattle.walk.specs.declared.walked.Walked.{Walked}
use Rattle.walk.specs.Walks.{Walks, put_if}
use Rattle.walk.specs.Keys.{in_pairs, is_judged}
use Rattle.walk.proofs.Said.{stopped, then-stop, done-shown, walks-stopped, walks-stop, walks-to}
use Rattle.walk.proofs.Placing.{put-length, holder-words}
use Rattle.walk.proofs.Loop.{Loop, loop-start, loop-stop, loop-marker, loop-end, next-frame}

-- ---- judging

-- what is judged of a frame that is a key, where keys are
step : (judged key : Bool) (a m : Bool) → pick judged (a && (not key || m)) true ≡ (pick judged a true && (not (judged && key) || m))
step true true a m = refl
step true false a m = refl
step false key a m = refl

turns : (pairs key : Bool) → pick pairs (not key) true ≡ not (pairs && key)
turns true key = refl
turns false key = refl

any : (b : Bool) → true ≡ pick b true true
any true = refl
any false = refl

-- what a holder may hold, by what is judged of it
holds_as : (k : ℕ) (f : Forest) → may_hold k f ≡ pick (is_judged k) (keys_fit (in_pairs k) true f) true
unfolding may_hold
holds_as k f = go (in_pairs k) (eqb k set_kind)
  where
    go : (a b : Bool) → pick a (keys_fit true true f) (pick b (keys_fit false true f) true) ≡ pick (a || b) (keys_fit a true f) true
    go true b = refl
    go false true = refl
    go false false = refl

-- ---- the loop

-- The loop over the frames of a holder of kind k, that began at a cursor with rows from `row` + 1 on. `key`: the next frame is a key or member; `fit`: those that were read may be.
pub record Turn (π : Profile) (w : Bool) (k n : ℕ) (c : Cursor) (lim row d : ℕ) (t₀ t : List ℕ) (place : Cursor) (used i : ℕ) (key fit : Bool) : Type 0 where
  pub loop : Loop (frame_p π d) w c.src.now t₀ lim (frames_of k n) c.at (row + 1) t place.at used i
  pub same : place.src.now ≡ c.src.now
  pub turn : key ≡ key_after (in_pairs k) true loop.read
  pub fits : fit ≡ pick (is_judged k) (keys_fit (in_pairs k) true loop.read) true
  pub few : i ≤ span loop.read

pub turn-start : {π : Profile} {w : Bool} {k n : ℕ} {c : Cursor} {lim row d : ℕ} {t₀ : List ℕ} → row < lim → Turn π w k n c lim row d t₀ t₀ c (row + 1) 0 true true
unfolding loop-start key_after keys_fit span
turn-start {k = k} {c = c} h = record { loop = loop-start c.within (omega arith); same = refl; turn = refl; fits = any (is_judged k); few = omega arith }

-- what the code's test says
module _ (k i n : ℕ) {pairs more : Bool} (p : pairs ≡ in_pairs k) (e : more ≡ ltb i (pick pairs (2 * n) n)) where
  told : ltb i (frames_of k n) ≡ more
  told = ap (λ (b : Bool). ltb i (pick b (2 * n) n)) (sym p) ∙ sym e

  pub more_left : more ≡ true → i < frames_of k n
  more_left q = ltb-true i (frames_of k n) (told ∙ q)

  pub none_left : more ≡ false → frames_of k n ≤ i
  none_left q = ltb-false i (frames_of k n) (told ∙ q)

module _ {π : Profile} {w : Bool} {k n : ℕ} {c : Cursor} {lim row d : ℕ} {t₀ t : List ℕ} {place : Cursor} {used i : ℕ} {key fit : Bool}
    (l : Turn π w k n c lim row d t₀ t place used i key fit) where
  pub turn-used : (row + 1 ≤ used) × (i + (row + 1) ≤ used) × (used ≤ lim)
  turn-used = (omega (arith, l.loop.count), omega (arith, l.loop.count, l.few), l.loop.rows)

  pub turn-next : i < frames_of k n → {t' : List ℕ} {o : Walked} {e : Cursor} {x : Bool} → x ≡ eqb (code_of o.kind) marker_kind → x ≡ false
      → Walks (frame_p π d) w place lim used used t t' (Ok (o, e))
      → Turn π w k n c lim row d t₀ t' e o.used (i + 1) (not (in_pairs k && key)) (fit && (not (is_judged k && key) || may_key (code_of o.kind)))
  turn-next h {t'} {o} {e} {x} m z v =
      let pairs : Bool = in_pairs k in
      let judged : Bool = is_judged k in
      let x = next-frame l.loop (frame-fills π d) h place e o (eqb-false (code_of o.kind) marker_kind (sym m ∙ z)) l.same refl v in
      let f = x.frame in
      let one : OneFrame f = subst (When (λ f a b. OneFrame f)) x.gave (gives-run OneFrame (frame_p π d) (frame-one π d) c.src.now lim place.at used) in
      record {
        loop = x.loop;
        same = v.over ∙ l.same;
        turn =
            sym (turns pairs key) ∙ ap (λ (b : Bool). pick pairs (not b) true) l.turn ∙ sym (one-after pairs (key_after pairs true l.loop.read) f one)
            ∙ sym (key-join pairs true l.loop.read f) ∙ ap (key_after pairs true) (sym x.reads);
        fits =
            ap (λ (b : Bool). b && (not (judged && key) || may_key (code_of o.kind))) l.fits
            ∙ ap (λ (b : ℕ). pick judged (keys_fit pairs true l.loop.read) true && (not (judged && key) || may_key b)) x.kind
            ∙ sym (step judged key (keys_fit pairs true l.loop.read) (may_key (frame_kind f)))
            ∙ ap (λ (b : Bool). pick judged (keys_fit pairs true l.loop.read && (not b || may_key (frame_kind f))) true) l.turn
            ∙ ap (λ (b : Bool). pick judged (keys_fit pairs true l.loop.read && b) true) (sym (one-fits pairs (key_after pairs true l.loop.read) f one))
            ∙ ap (λ (b : Bool). pick judged b true) (sym (keys-join pairs true l.loop.read f))
            ∙ ap (λ (g : Forest). pick judged (keys_fit pairs true g) true) (sym x.reads);
        few = subst (λ (g : Forest). i + 1 ≤ span g) (sym x.reads) (omega (arith, span-join l.loop.read f, one-row f one, l.few));
      }

  module _ (a : ℕ) where
    held : run (rest_p (frame_p π d) a (holder k (frames_of k n))) c.src.now lim c.at (row + 1)
        ≡ then (run (frames_p (frames_of k n) (frame_p π d)) c.src.now lim c.at (row + 1)) (over (frame_p π d) c.src.now lim c.at (row + 1) a k (frames_of k n))
    held = holder-run (frame_p π d) c.src.now lim c.at (row + 1) a k (frames_of k n)

    -- a frame that stops the walk
    pub turn-stops : i < frames_of k n → {t' : List ℕ} {e : Stop} → Walks (frame_p π d) w place lim used used t t' (Err e)
        → Walks (rest_p (frame_p π d) a (holder k (frames_of k n))) w c lim (row + 1) row t₀ t' (Err e)
    turn-stops h {t'} {e} v =
        let s : run (frame_p π d) c.src.now lim place.at used ≡ stopped e = rw l.same at (walks-stopped v) in
        walks-stop (held ∙ rw (loop-stop l.loop h e s, then-stop e (over (frame_p π d) c.src.now lim c.at (row + 1) a k (frames_of k n))) refl) (λ y. v.kept y ∙ l.loop.kept y) (v.keeps ∙ l.loop.same)

    -- a marker
    pub turn-marked : i < frames_of k n → {t' : List ℕ} {o : Walked} {e : Cursor} {x : Bool} → x ≡ eqb (code_of o.kind) marker_kind → x ≡ true → Walks (frame_p π d) w place lim used used t t' (Ok (o, e))
        → Walks (rest_p (frame_p π d) a (holder k (frames_of k n))) w c lim (row + 1) row t₀ t' (Err (Stop.Refused Refusal.Marker e.at))
    turn-marked h {t'} {o} {e} {x} m y v =
        let s : done (code_of o.kind) e.at o.used ≡ map_out frame_kind (run (frame_p π d) c.src.now lim place.at used) = rw l.same at v.says in
        let z = done-shown (run (frame_p π d) c.src.now lim place.at used) (code_of o.kind) e.at o.used s in
        walks-stop (held ∙ rw (loop-marker l.loop h z.1 (sym z.2 ∙ eqb-true (code_of o.kind) marker_kind (sym m ∙ y))) refl) (λ y. v.kept y ∙ l.loop.kept y) (v.keeps ∙ l.loop.same)

    -- a key or member that may not be one, behind the last frame
    pub turn-misfit : frames_of k n ≤ i → fit ≡ false → Walks (rest_p (frame_p π d) a (holder k (frames_of k n))) w c lim (row + 1) row t₀ t (Err (Stop.Refused Refusal.Key place.at))
    turn-misfit h m =
        let j : may_hold k l.loop.read ≡ false = holds_as k l.loop.read ∙ sym l.fits ∙ m in
        walks-stop (held ∙ rw (loop-end l.loop h, j) refl) l.loop.kept l.loop.same

    -- the holder's row
    pub turn-ends : frames_of k n ≤ i → fit ≡ true → row < lim → lim ≤ most_rows → (kind : Kind) → code_of kind ≡ k → {t' : List ℕ}
        → t' ≡ put_if w t row (row_of (node_of k 0 0 i a) (used - row))
        → Walks (rest_p (frame_p π d) a (holder k (frames_of k n))) w c lim (row + 1) row t₀ t' (Ok (record { used = used; kind = kind }, place))
    unfolding frame_kind
    turn-ends h m le few kind g e =
        let j : may_hold k l.loop.read ≡ true = holds_as k l.loop.read ∙ sym l.fits ∙ m in
        let all : i ≡ frames_of k n = omega (arith, l.loop.turns) in
        let x : Node = node_of k 0 0 (frames_of k n) a in
        let q = rw all at e in
        walks-to (item x l.loop.read end) _ place (held ∙ rw (loop-end l.loop h, j) refl) g
        (λ y room. q ∙ rw y (holder-words x t₀ t row used lim l.loop.read le few room l.loop.count (l.loop.holds y room)))
        (λ y. q ∙ rw y (l.loop.kept y))
        (ap length q ∙ put-length w t row _ ∙ l.loop.same) l.same
