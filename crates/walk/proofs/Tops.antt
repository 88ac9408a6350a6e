-- The whole call, complete or streaming: a marker at its top, a walk that writes nothing and then one that writes, and the answer.
use Rattle.std.specs.Prelude.{◌≡◌, Bool, true, false, ◌&&◌, ◌||◌, ℕ, zero, suc, ◌+◌, ◌-◌, ◌*◌, ◌/◌, ◌≤◌, ◌<◌, List, Some, Result, Ok, Err, length, take, get_or, eqb}
use Rattle.std.proofs.Common.{refl, sym, ap, subst, ◌∙◌, arith, ne_eqb}
use Rattle.std.proofs.Math.Nat.{min-le_right}
use Rattle.std.proofs.Math.Path.{fun_ext}
use Rattle.std.proofs.Math.Option as math
use Rattle.std.proofs.lemmas.List.Edits.{sets}
use Rattle.meaning.specs.Choice.{pick}
use Rattle.meaning.specs.Demand.{bytes, line}
use Rattle.meaning.specs.Text.{Length, count, minus_one}
use Rattle.meaning.specs.Prog.{Prog, ret, refuse, room, here, ask, bind, run, Out, done, refused, unfinished}
use Rattle.meaning.specs.ProgLaws.{then, run_bind, When, gives-run, Settled, ends, starts}
use Rattle.meaning.specs.Kinds.{Profile, kind_of, array_kind, map_kind, attribute_kind, hello_kind, marker_kind}
use Rattle.meaning.specs.Rows.{Forest, frame_kind, words, row_width, rows_in, most_rows}
use Rattle.meaning.specs.Frames.{Step, greeting, holder, bulk_p, verbatim_p, chunk_p, sized, length_for, length_p, head_p, body_p, rest_p, carries_p, annotated_p, attribute_p, frame_p, decode_p}
use Rattle.meaning.specs.Decode.{outcome_of, decode}
use Rattle.meaning.specs.FramesLaws.{Item, item_of, rest-item}
use Rattle.meaning.specs.RunLaws.{frame-deep, frame-full, frame-typed, type-short, decode-run, decode_run-is, decode_is}
use Rattle.kinds.specs.Codes.{code_of}
use Rattle.kinds.specs.declared.kind.Kind.TheVariants as Kind
use Rattle.refusal.specs.Numbers.{number_of}
use Rattle.refusal.specs.declared.Refusal.{Refusal}
use Rattle.refusal.specs.declared.Stop.{Stop}
use Rattle.text.specs.declared.cursor.Cursor.{Cursor}
use Rattle.answers.specs.Answers.{Decoded, meant, seen, view, table_after}
use Rattle.answers.specs.declared.Answer.{Answer}
use Rattle.walk.specs.declared.walked.Walked.{Walked}
use Rattle.walk.specs.Walks.{Walks, Wrote}
use Rattle.walk.specs.Tops.{moded, typed_p, judged_p, judged_w, call_p}
use Rattle.heads.specs.declared.Head.{Head}
use Rattle.heads.specs.declared.Head.TheVariants as head
use Rattle.heads.specs.Steps.{step_of, array_of}
use Rattle.text.specs.Reads.{Gives, byte_p}
use Rattle.text3.specs.Hello.{fields_of}
use Rattle.text3.specs.declared.hello.Greeting.{Greeting}
use Rattle.walk.proofs.Steps.{typed-stop, choice, framed, chosen, headed}
use Rattle.walk.proofs.Said.{stopped, walks-as, walks-done, walks-stopped, walks-stop}

-- ---- a frame is the same in both modes

module _ (π : Profile) (m : Bool) where
  kind-same : (b : ℕ) → kind_of (moded π m) b ≡ kind_of π b
  unfolding kind_of
  kind-same b = refl

  sized_same : (k : ℕ) (f : ℕ → Prog Step) (l : math.Option Length) → sized (moded π m) k f l ≡ sized π k f l
  sized_same k f math.none = refl
  sized_same k f (math.some (count n)) = refl
  sized_same k f (math.some minus_one) = refl

  length-same : (k : ℕ) (f : ℕ → Prog Step) → length_p (moded π m) k f ≡ length_p π k f
  length-same k f = ap (ask line) (fun_ext (λ c. sized_same k f (length_for π k (take (length c - 2) c))))

  head-same : (k : ℕ) → head_p (moded π m) k ≡ head_p π k
  unfolding head_p
  head-same k = rw (length-same k (bulk_p π k), length-same k (verbatim_p π), length-same k (chunk_p π), length-same k (λ n. ret (holder k (pick (eqb k map_kind || eqb k attribute_kind) (2 * n) n))))

  body_same : (p : Prog Forest) (w k : ℕ) → body_p (moded π m) p w k ≡ body_p π p w k
  body_same p w k = ap (λ (h : Prog Step). bind h (rest_p p w)) (head-same k)

  second-same : (p : Prog Forest) (w : ℕ) (a : Forest) → annotated_p (moded π m) p w a ≡ annotated_p π p w a
  unfolding annotated_p
  second-same p w a = ap (λ (f : List ℕ → Prog Forest). room (ask (bytes 1) f)) (fun_ext (λ c. by (get_or c 0 0)))
    where
      by : (b : ℕ) → pick (eqb (kind_of (moded π m) b) attribute_kind) (refuse 7) (bind (body_p (moded π m) p w (kind_of (moded π m) b)) (carries_p a))
          ≡ pick (eqb (kind_of π b) attribute_kind) (refuse 7) (bind (body_p π p w (kind_of π b)) (carries_p a))
      by b = rw (kind-same b, body_same p w (kind_of π b))

  attribute-same : (p : Prog Forest) → attribute_p (moded π m) p ≡ attribute_p π p
  unfolding attribute_p
  attribute-same p = ap here (fun_ext (λ at. fun_ext (λ used. by used)))
    where
      by : (used : ℕ) → bind (body_p (moded π m) p 0 attribute_kind) (annotated_p (moded π m) p used) ≡ bind (body_p π p 0 attribute_kind) (annotated_p π p used)
      by used =
          ap (λ (q : Prog Forest). bind q (annotated_p (moded π m) p used)) (body_same p 0 attribute_kind)
          ∙ ap (bind (body_p π p 0 attribute_kind)) (fun_ext (λ a. second-same p used a))

  frame-same : (d : ℕ) → frame_p (moded π m) d ≡ frame_p π d
  unfolding frame_p
  frame-same zero = refl
  frame-same (suc d) = ap (λ (f : List ℕ → Prog Forest). room (ask (bytes 1) f)) (fun_ext (λ c. by (get_or c 0 0) (frame_p (moded π m) d) (frame-same d)))
    where
      by : (b : ℕ) (p : Prog Forest) → p ≡ frame_p π d → pick (eqb (kind_of (moded π m) b) attribute_kind) (attribute_p (moded π m) p) (body_p (moded π m) p 0 (kind_of (moded π m) b))
          ≡ pick (eqb (kind_of π b) attribute_kind) (attribute_p π (frame_p π d)) (body_p π (frame_p π d) 0 (kind_of π b))
      by b p e = rw (kind-same b, attribute-same p, body_same p 0 (kind_of π b), e)

-- ---- a marker at the top

-- what a call makes of an outcome
abbrev judged : Bool → Out Forest → Out Forest
judged c (done f n u) = pick (c && eqb (frame_kind f) marker_kind) (refused 6 n) (done f n u)
judged c (refused k n) = refused k n
judged c unfinished = unfinished

judged-stop : (m : Bool) (e : Stop) → judged m (stopped e) ≡ stopped e
judged-stop m (Stop.Refused r n) = refl
judged-stop m Stop.Unfinished = refl

module _ (m : Bool) (s : List ℕ) (lim : ℕ) where
  judge : (f : Forest) (n u : ℕ) (b : Bool) → run (pick b (refuse 6) (ret f)) s lim n u ≡ pick b (refused 6 n) (done f n u)
  unfolding run
  judge f n u true = refl
  judge f n u false = refl

  judge-all : (o : Out Forest) → then o (λ f n u. run (pick (m && eqb (frame_kind f) marker_kind) (refuse 6) (ret f)) s lim n u) ≡ judged m o
  judge-all (done f n u) = judge f n u (m && eqb (frame_kind f) marker_kind)
  judge-all (refused k n) = refl
  judge-all unfinished = refl

  judged-run : (p : Prog Forest) (at used : ℕ) → run (judged_p m p) s lim at used ≡ judged m (run p s lim at used)
  judged-run p at used = run_bind p (λ f. pick (m && eqb (frame_kind f) marker_kind) (refuse 6) (ret f)) s lim at used ∙ judge-all (run p s lim at used)

module _ (m : Bool) {p : Prog Forest} {c : Cursor} {lim used row : ℕ} {t₀ t₁ : List ℕ} where
  -- where a walk stopped that wrote nothing
  pub dry-stops : {e : Stop} → Walks p false c lim used row t₀ t₁ (Err e) → Walks (judged_p m p) true c lim used row t₀ t₁ (Err e)
  dry-stops {e} k = walks-stop (judged-run m c.src.now lim p c.at used ∙ rw (walks-stopped k) (judged-stop m e)) (λ y. k.kept refl) k.keeps

  module _ {o : Walked} {d : Cursor} {x : Bool} (i : x ≡ eqb (code_of o.kind) marker_kind) where
    -- a walk that came to a marker
    pub dry-marked : Walks p false c lim used row t₀ t₁ (Ok (o, d)) → (m && x) ≡ true → Walks (judged_p m p) true c lim used row t₀ t₁ (Err (Stop.Refused Refusal.Marker d.at))
    dry-marked k y =
        let f = walks-done k in
        let q : (m && eqb (frame_kind f.0) marker_kind) ≡ true = ap (λ (j : ℕ). m && eqb j marker_kind) (sym f.2) ∙ ap (λ (b : Bool). m && b) (sym i) ∙ y in
        walks-stop (judged-run m c.src.now lim p c.at used ∙ rw (f.1, q) refl) (λ z. k.kept refl) k.keeps

    -- one that came to a frame, which stands
    pub dry-stands : Walks p false c lim used row t₀ t₁ (Ok (o, d)) → (m && x) ≡ false → run (judged_p m p) c.src.now lim c.at used ≡ run p c.src.now lim c.at used
    dry-stands k y =
        let f = walks-done k in
        let q : (m && eqb (frame_kind f.0) marker_kind) ≡ false = ap (λ (j : ℕ). m && eqb j marker_kind) (sym f.2) ∙ ap (λ (b : Bool). m && b) (sym i) ∙ y in
        judged-run m c.src.now lim p c.at used ∙ rw (f.1, q) refl

module _ (m : Bool) {p : Prog Forest} {w : Bool} {c : Cursor} {lim used row : ℕ} {t₀ t₁ : List ℕ} where
  -- a walk of a frame, judged, is one of the call's
  pub judged-walks : (r : Result (Walked × Cursor) Stop) → Walks p w c lim used row t₀ t₁ r → Walks (judged_p m p) w c lim used row t₀ t₁ (judged_w m r)
  judged-walks (Err e) k = walks-stop (judged-run m c.src.now lim p c.at used ∙ rw (walks-stopped k) (judged-stop m e)) k.kept k.keeps
  judged-walks (Ok (o, d)) k = go (m && eqb (code_of o.kind) marker_kind) refl
    where
      go : (b : Bool) → (m && eqb (code_of o.kind) marker_kind) ≡ b → Walks (judged_p m p) w c lim used row t₀ t₁ (pick b (Err (Stop.Refused Refusal.Marker d.at)) (Ok (o, d)))
      go true y =
          let f = walks-done k in
          let q : (m && eqb (frame_kind f.0) marker_kind) ≡ true = ap (λ (j : ℕ). m && eqb j marker_kind) (sym f.2) ∙ y in
          walks-stop (judged-run m c.src.now lim p c.at used ∙ rw (f.1, q) refl) k.kept k.keeps
      go false y =
          let f = walks-done k in
          let q : (m && eqb (frame_kind f.0) marker_kind) ≡ false = ap (λ (j : ℕ). m && eqb j marker_kind) (sym f.2) ∙ y in
          walks-as refl refl (judged-run m c.src.now lim p c.at used ∙ rw (f.1, q) refl) k

-- a frame behind its head
pub judged-body : (π : Profile) (p : Prog Forest) (a k : ℕ) (m : Bool) {c : Cursor} {lim row : ℕ} {t₀ t₁ : List ℕ} (h : Head) {n : Cursor} → Gives (head_p π k) step_of c (Ok (h, n))
    → {r : Result (Walked × Cursor) Stop} → Walks (judged_p m (rest_p p a (step_of h))) true n lim (row + 1) row t₀ t₁ r → Walks (judged_p m (body_p π p a k)) true c lim (row + 1) row t₀ t₁ r
judged-body π p a k m {c} {lim} {row} h {n} g v =
    walks-as g.over refl
    (judged-run m c.src.now lim (body_p π p a k) c.at (row + 1) ∙ ap (judged m) (headed π p a k c lim (row + 1) g) ∙ sym (judged-run m n.src.now lim (rest_p p a (step_of h)) n.at (row + 1))) v

pub judged-array : (π : Profile) (p : Prog Forest) (a k : ℕ) (m : Bool) {c : Cursor} {lim row : ℕ} {t₀ t₁ : List ℕ} (i : ℕ) {n : Cursor} → Gives (head_p π k) array_of c (Ok (i, n))
    → {r : Result (Walked × Cursor) Stop} → Walks (judged_p m (rest_p p a (holder array_kind i))) true n lim (row + 1) row t₀ t₁ r → Walks (judged_p m (body_p π p a k)) true c lim (row + 1) row t₀ t₁ r
judged-array π p a k m i g v = judged-body π p a k m (head.Holder Kind.Array i) (record { means = g.means; over = g.over }) v

-- a frame that is no marker stands
judged-stands : (m : Bool) (o : Out Forest) → When (λ f n u. frame_kind f ≡ marker_kind → ⊥) o → judged m o ≡ o
judged-stands m (done f n u) h = go m (ne_eqb (frame_kind f) marker_kind h)
  where
    go : (m : Bool) → eqb (frame_kind f) marker_kind ≡ false → pick (m && eqb (frame_kind f) marker_kind) (refused 6 n) (done f n u) ≡ done f n u
    go true e = rw e refl
    go false e = refl
judged-stands m (refused k n) h = refl
judged-stands m unfinished h = refl

-- HELLO is no marker
hello-item : (f : Forest) → Item hello_kind f → frame_kind f ≡ marker_kind → ⊥
unfolding frame_kind
hello-item f (item_of h j e) q = let z : ◌≡◌ {A = ℕ} 18 19 = sym e ∙ q in omega arith

pub hello-stands : (m : Bool) (π : Profile) (p : Prog Forest) (a k : ℕ) (c : Cursor) (lim used : ℕ) (g : Greeting) {n : Cursor} → Gives (head_p π k) step_of c (Ok (head.Hello g, n))
    → run (judged_p m (body_p π p a k)) c.src.now lim c.at used ≡ run (body_p π p a k) c.src.now lim c.at used
hello-stands m π p a k c lim used g {n} v =
    judged-run m c.src.now lim (body_p π p a k) c.at used
    ∙ judged-stands m (run (body_p π p a k) c.src.now lim c.at used) (subst (When (λ f n u. frame_kind f ≡ marker_kind → ⊥)) (sym (headed π p a k c lim used v)) (weaken (run (rest_p p a (greeting g.version (fields_of g))) n.src.now lim n.at used)
    (gives-run (Item hello_kind) (rest_p p a (greeting g.version (fields_of g))) (rest-item p a (greeting g.version (fields_of g))) n.src.now lim n.at used)))
  where
    weaken : (o : Out Forest) → When (λ f n u. Item hello_kind f) o → When (λ f n u. frame_kind f ≡ marker_kind → ⊥) o
    weaken (done f n u) h = hello-item f h
    weaken (refused k n) h = tt
    weaken unfinished h = tt

-- ---- a frame by its kind

module _ (π : Profile) (m : Bool) (d k : ℕ) {x : Bool} (i : x ≡ eqb k attribute_kind) {c : Cursor} {lim used row : ℕ} {t₀ t₁ : List ℕ} {r : Result (Walked × Cursor) Stop} where
  pub call-attribute : x ≡ true → Walks (judged_p m (attribute_p π (frame_p π d))) true c lim used row t₀ t₁ r → Walks (call_p π m d k) true c lim used row t₀ t₁ r
  call-attribute q v = rw (sym i ∙ q) v

  pub call-body : x ≡ false → Walks (judged_p m (body_p π (frame_p π d) 0 k)) true c lim used row t₀ t₁ r → Walks (call_p π m d k) true c lim used row t₀ t₁ r
  call-body q v = rw (sym i ∙ q) v

-- ---- the whole call

module _ (π : Profile) (m : Bool) (d : ℕ) (s : List ℕ) (lim at : ℕ) where
  called : run (decode_p (moded π m) d) s lim at 0 ≡ judged m (run (frame_p π d) s lim at 0)
  called =
      decode-run (moded π m) d s lim at 0
      ∙ judge-all m s lim (run (frame_p (moded π m) d) s lim at 0)
      ∙ ap (λ (p : Prog Forest). judged m (run p s lim at 0)) (frame-same π m d)

-- what is seen where a call stopped
stop-seen : (at : ℕ) (x : Stop) → ((n : ℕ) → ends {A = Forest} (stopped x) ≡ n → Settled {A = Forest} (stopped x) → at ≤ n) → view (Err x) ≡ seen at (outcome_of at (stopped x))
unfolding outcome_of
stop-seen at (Stop.Refused r n) h = let e : n ≡ at + (n - at) = omega (arith, h n refl tt) in ap (λ (j : ℕ). Err (Some (number_of r, j))) e
stop-seen at Stop.Unfinished h = refl

stop-leaves : (at : ℕ) (t : List ℕ) (x : Stop) → t ≡ table_after t (outcome_of at (stopped x))
unfolding outcome_of
stop-leaves at t (Stop.Refused r n) = refl
stop-leaves at t Stop.Unfinished = refl

module _ (π : Profile) (d : ℕ) (s t₀ : List ℕ) (at lim : ℕ) (e : lim ≡ rows_in (length t₀)) where
  meant-is : meant π d s at t₀ ≡ outcome_of at (run (decode_p π d) s lim at 0)
  meant-is = ap (λ (n : ℕ). decode π d n s at) (sym e) ∙ decode_is π d lim s at ∙ ap (outcome_of at) (decode_run-is π d lim s at)

  decoded-stop : {x : Stop} {t₁ : List ℕ} → run (decode_p π d) s lim at 0 ≡ stopped x → t₁ ≡ t₀ → Decoded π d s at t₀ t₁ (Err x)
  decoded-stop {x} q k = record {
    says = stop-seen at x (λ n j w. subst (λ (i : ℕ). at ≤ i) (ap ends q ∙ j) (starts (decode_p π d) s lim at 0 (subst Settled (sym q) w))) ∙ ap (seen at) (sym (meant-is ∙ ap (outcome_of at) q));
    leaves = k ∙ stop-leaves at t₀ x ∙ ap (table_after t₀) (sym (meant-is ∙ ap (outcome_of at) q));
  }

  module _ {f : Forest} {n u : ℕ} (q : run (decode_p π d) s lim at 0 ≡ done f n u) {t₁ : List ℕ} (l : t₁ ≡ sets t₀ 0 (words f)) {j : ℕ} (i : j ≡ frame_kind f) where
    decoded-marker : eqb j marker_kind ≡ true → Decoded π d s at t₀ t₁ (Ok (Answer.Marker (n - at) u))
    unfolding outcome_of
    decoded-marker y =
        let h : eqb (frame_kind f) marker_kind ≡ true = ap (λ (k : ℕ). eqb k marker_kind) (sym i) ∙ y in
        record { says = rw (meant-is, q, h) refl; leaves = l ∙ rw (meant-is, q, h) refl }

    decoded-frame : eqb j marker_kind ≡ false → Decoded π d s at t₀ t₁ (Ok (Answer.Frame (n - at) u))
    unfolding outcome_of
    decoded-frame y =
        let h : eqb (frame_kind f) marker_kind ≡ false = ap (λ (k : ℕ). eqb k marker_kind) (sym i) ∙ y in
        record { says = rw (meant-is, q, h) refl; leaves = l ∙ rw (meant-is, q, h) refl }

-- of a table 4,096 rows are used at most
pub few : (lim n : ℕ) → lim ≡ rows_in n → lim ≤ most_rows
few lim n e = rw e (min-le_right (n / row_width) most_rows)

module _ (π : Profile) (m : Bool) (d : ℕ) where
  pub decoded-deep : (s t₀ : List ℕ) (at : ℕ) → d ≡ 0 → Decoded (moded π m) d s at t₀ t₀ (Err (Stop.Refused Refusal.Depth at))
  decoded-deep s t₀ at e =
      decoded-stop (moded π m) d s t₀ at (rows_in (length t₀)) refl
      (called π m d s (rows_in (length t₀)) at ∙ ap (judged m) (ap (λ (k : ℕ). run (frame_p π k) s (rows_in (length t₀)) at 0) e ∙ frame-deep π s (rows_in (length t₀)) at 0)) refl

  module _ (some : d ≡ 0 → ⊥) (lim : ℕ) where
    pub decoded-full : (s t₀ : List ℕ) (at : ℕ) → lim ≡ rows_in (length t₀) → lim ≡ 0 → Decoded (moded π m) d s at t₀ t₀ (Err (Stop.Refused Refusal.Rows at))
    decoded-full s t₀ at e z =
        let q : d ≡ suc (d - 1) = omega arith in
        decoded-stop (moded π m) d s t₀ at lim e
        (called π m d s lim at ∙ ap (judged m) (ap (λ (k : ℕ). run (frame_p π k) s lim at 0) q ∙ frame-full π s lim at 0 (d - 1) (omega arith))) refl

    module _ (one : 0 < lim) where
      pub decoded-past : (s t₀ : List ℕ) (at : ℕ) → lim ≡ rows_in (length t₀) → length s < at → Decoded (moded π m) d s at t₀ t₀ (Err Stop.Unfinished)
      decoded-past s t₀ at e h =
          let q : d ≡ suc (d - 1) = omega arith in
          decoded-stop (moded π m) d s t₀ at lim e
          (called π m d s lim at
          ∙ ap (judged m) (ap (λ (k : ℕ). run (frame_p π k) s lim at 0) q ∙ frame-typed π s lim at 0 (d - 1) one ∙ type-short s lim at 1 π (choice π d) (omega arith))) refl

      module _ (c : Cursor) (t₀ : List ℕ) (e : lim ≡ rows_in (length t₀)) where
        pub decoded-short : {x : Stop} → Gives byte_p (λ b. b) c (Err x) → Decoded (moded π m) d c.src.now c.at t₀ t₀ (Err x)
        decoded-short {x} g =
            decoded-stop (moded π m) d c.src.now t₀ c.at lim e
            (called π m d c.src.now lim c.at ∙ ap (judged m) (framed π d some c lim 0 one ∙ typed-stop π (choice π d) c lim 1 g) ∙ judged-stop m x) refl

        module _ {b : ℕ} {n : Cursor} (k : ℕ) (g : Gives byte_p (λ b. b) c (Ok (b, n))) (i : k ≡ kind_of π b) where
          calls : run (decode_p (moded π m) d) c.src.now lim c.at 0 ≡ run (call_p π m (d - 1) k) n.src.now lim n.at 1
          calls = called π m d c.src.now lim c.at ∙ ap (judged m) (chosen π d some c lim 0 one k g i) ∙ sym (judged-run m n.src.now lim (typed_p π (d - 1) k) n.at 1)

          pub decoded-stops : {x : Stop} {t₁ : List ℕ} → Walks (call_p π m (d - 1) k) true n lim 1 0 t₀ t₁ (Err x) → t₁ ≡ t₀ → Decoded (moded π m) d c.src.now c.at t₀ t₁ (Err x)
          decoded-stops w j = decoded-stop (moded π m) d c.src.now t₀ c.at lim e (calls ∙ walks-stopped w) j

          module _ {o : Walked} {z : Cursor} {t₁ : List ℕ} (w : Walks (call_p π m (d - 1) k) true n lim 1 0 t₀ t₁ (Ok (o, z))) where
            comes : run (decode_p (moded π m) d) c.src.now lim c.at 0 ≡ done (walks-done w).0 z.at o.used
            comes = calls ∙ (walks-done w).1

            pub decoded-behind : c.at ≤ z.at
            decoded-behind = subst (λ (j : ℕ). c.at ≤ j) (ap ends comes) (starts (decode_p (moded π m) d) c.src.now lim c.at 0 (subst Settled (sym comes) tt))

            rows : t₁ ≡ sets t₀ 0 (words (walks-done w).0)
            rows = let v : Wrote true 0 lim t₀ t₁ (done (walks-done w).0 z.at o.used) = subst (Wrote true 0 lim t₀ t₁) (walks-done w).1 w.leaves in v refl (omega arith)

            module _ {x : Bool} (j : x ≡ eqb (code_of o.kind) marker_kind) where
              pub decoded-marked : x ≡ true → Decoded (moded π m) d c.src.now c.at t₀ t₁ (Ok (Answer.Marker (z.at - c.at) o.used))
              decoded-marked y = decoded-marker (moded π m) d c.src.now t₀ c.at lim e comes rows (walks-done w).2 (sym j ∙ y)

              pub decoded-framed : x ≡ false → Decoded (moded π m) d c.src.now c.at t₀ t₁ (Ok (Answer.Frame (z.at - c.at) o.used))
              decoded-framed y = decoded-frame (moded π m) d c.src.now t₀ c.at lim e comes rows (walks-done w).2 (sym j ∙ y)
