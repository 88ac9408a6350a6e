-- A walk in rows beside the table, and the rows laid in front of the table: what the walk into the table says and leaves.
use Rattle.std.specs.Prelude.{◌≡◌, Bool, true, false, ◌&&◌, ℕ, ◌+◌, ◌*◌, ◌≤◌, ◌<◌, List, ◌++◌, Ok, Err, length, take, drop, eqb}
use Rattle.std.proofs.Common.{refl, sym, ap, subst, ◌∙◌, arith, take_at}
use Rattle.std.proofs.lemmas.List.Edits.{sets, sets-eq}
use Rattle.std.proofs.Math.Seq.{paste, length-sets}
use Rattle.meaning.specs.Prog.{Prog, ret, refuse, run, done}
use Rattle.meaning.specs.ProgLaws.{NotFull, roomier, Weighs, weighs-run, weighs-bind, weighs-pick}
use Rattle.meaning.specs.Kinds.{Profile, marker_kind}
use Rattle.meaning.specs.Rows.{Forest, frame_kind, span, words, row_width}
use Rattle.meaning.specs.RowsLaws.{length-words}
use Rattle.meaning.specs.Frames.{holder, frame_p}
use Rattle.meaning.specs.FramesLaws.{frame-fills, rest-fills, attribute-fills}
use Rattle.kinds.specs.Codes.{code_of}
use Rattle.heads.specs.Steps.{frames_of}
use Rattle.refusal.specs.declared.Stop.{Stop}
use Rattle.text.specs.declared.cursor.Cursor.{Cursor}
use Rattle.walk.specs.declared.walked.Walked.{Walked}
use Rattle.walk.specs.declared.apart.Held.{Held}
use Rattle.walk.specs.Walks.{Walks, Wrote}
use Rattle.walk.specs.Tops.{held_p, judged_p, is_full}
use Rattle.walk.proofs.Said.{stopped, walks-done, walks-stopped, walks-within, walks-stop, walks-to}

-- ---- the rows of what is walked are those of its frames

held-fills : (π : Profile) (d : ℕ) (h : Held) → Weighs 1 span (held_p π d h)
held-fills π d (Held.Frames k n) = rest-fills (frame_p π d) (frame-fills π d) 0 (holder (code_of k) (frames_of (code_of k) n))
held-fills π d Held.Attribute = attribute-fills π (frame_p π d) (frame-fills π d)

pub judged-fills : (m : Bool) (π : Profile) (d : ℕ) (h : Held) → Weighs 1 span (judged_p m (held_p π d h))
judged-fills m π d h =
    weighs-bind span span (held_p π d h) _ 1 (held-fills π d h) (λ f. weighs-pick span (span f) (m && eqb (frame_kind f) marker_kind) (refuse 6) (ret f) tt refl)

-- ---- a frame that is there

module _ {p : Prog Forest} (fills : Weighs 1 span p) (most : ℕ) {c : Cursor} {own x : List ℕ} {o : Walked} {d : Cursor} (w : Walks p true c most 1 0 own x (Ok (o, d))) (one : 0 < most) where
  pub apart-used : o.used ≤ most
  apart-used = let b = walks-within w (omega arith) in omega (arith, b.rows)

  frame : (f : Forest) × (run p c.src.now most c.at 1 ≡ done f d.at o.used) × (code_of o.kind ≡ frame_kind f)
  frame = walks-done w

  size : 0 + length (words frame.0) ≡ row_width * o.used
  size =
      let b : o.used + 1 ≡ 1 + span frame.0 = rw frame.1 at (weighs-run span p 1 fills c.src.now most c.at 1) in
      omega (arith, length-words frame.0)

  -- the frames' words at the front of a table
  in-front : (t : List ℕ) → row_width * most ≤ length t → sets t 0 (words frame.0) ≡ words frame.0 ++ drop (row_width * o.used) t
  in-front t h = sets-eq (words frame.0) t 0 (omega (arith, size, apart-used)) ∙ ap (λ (n : ℕ). words frame.0 ++ drop n t) size

  module _ (rows : row_width * most ≤ length own) (t₀ : List ℕ) (room : row_width * most ≤ length t₀) where
    laid : {t₁ : List ℕ} → t₁ ≡ paste t₀ 0 x (row_width * o.used) → t₁ ≡ sets t₀ 0 (words frame.0)
    laid e =
        let l : Wrote true 0 most own x (done frame.0 d.at o.used) = subst (Wrote true 0 most own x) frame.1 w.leaves in
        let q : 0 + row_width * o.used ≡ row_width * o.used = omega arith in
        e
        ∙ ap (λ (n : ℕ). take (row_width * o.used) x ++ drop n t₀) q
        ∙ ap (λ (l : List ℕ). take (row_width * o.used) l ++ drop (row_width * o.used) t₀) (l refl rows ∙ in-front own rows)
        ∙ ap (λ (l : List ℕ). l ++ drop (row_width * o.used) t₀) (take_at (words frame.0) (drop (row_width * o.used) own) (row_width * o.used) (omega (arith, size)))
        ∙ sym (in-front t₀ room)

    pub apart-laid : (lim : ℕ) → most ≤ lim → {t₁ : List ℕ} → t₁ ≡ paste t₀ 0 x (row_width * o.used) → Walks p true c lim 1 0 t₀ t₁ (Ok (o, d))
    apart-laid lim le {t₁} e =
        let more : run p c.src.now lim c.at 1 ≡ done frame.0 d.at o.used =
        roomier p c.src.now most lim c.at 1 le (subst NotFull (sym frame.1) tt) ∙ frame.1 in
        let z = laid e in
        walks-to frame.0 o d more frame.2 (λ y there. z) (λ y. cc) (ap length z ∙ length-sets t₀ 0 (words frame.0)) w.over

-- ---- what stopped, other than by the rows that are missing

apart-open : (e : Stop) → is_full e ≡ false → NotFull {A = Forest} (stopped e)
apart-open (Stop.Refused r n) h = λ k. let z : true ≡ false = rw k at h in cc
apart-open Stop.Unfinished h = tt

pub apart-stopped : (p : Prog Forest) (most lim : ℕ) {c : Cursor} {own x t₀ : List ℕ} {e : Stop} → Walks p true c most 1 0 own x (Err e) → is_full e ≡ false → most ≤ lim
    → Walks p true c lim 1 0 t₀ t₀ (Err e)
apart-stopped p most lim {c} {own} {x} {t₀} {e} w h le =
    let s = walks-stopped w in
    walks-stop (roomier p c.src.now most lim c.at 1 le (subst NotFull (sym s) (apart-open e h)) ∙ s) (λ y. refl) refl
