-- A frame, an attribute and its frame, and a frame's body: what their runs come to, step by step.
use Rattle.std.specs.Prelude.{◌≡◌, Bool, true, false, ℕ, suc, ◌+◌, ◌-◌, ◌*◌, ◌≤◌, ◌<◌, List, Result, Ok, Err, length, take, drop, get_or, ltb, eqb}
use Rattle.std.proofs.Common.{refl, sym, ap, subst, ◌∙◌, arith, lt-ltb, le-ltb}
use Rattle.std.proofs.Math.Option.{Option, none, some}
use Rattle.std.proofs.lemmas.List.Edits.{sets}
use Rattle.meaning.specs.Choice.{pick}
use Rattle.meaning.specs.Demand.{bytes, serves}
use Rattle.meaning.specs.Prog.{Prog, ret, refuse, room, here, ask, bind, roomed, served, run, Out, done, refused, unfinished}
use Rattle.meaning.specs.ProgLaws.{then, run_bind, When, Gives as All, gives-run, gives-bind, weighs-run}
use Rattle.meaning.specs.Kinds.{Profile, kind_of, may_carry, array_kind, attribute_kind}
use Rattle.meaning.specs.Rows.{Node, node_of, Forest, end, item, join, frame_kind, span, words, row_width, most_rows}
use Rattle.meaning.specs.RowsLaws.{words-join, length-words}
use Rattle.meaning.specs.Frames.{Step, holder, head_p, body_p, type_p, rest_p, carries_p, annotated_p, attribute_p, frame_p}
use Rattle.meaning.specs.FramesLaws.{step_kind, Item, item_of, body-gives, body-fills, frame-fills}
use Rattle.meaning.specs.KeyLaws.{attribute-head}
use Rattle.meaning.specs.RunLaws.{map_out, frame-deep, frame-full, frame-typed, leaf-run}
use Rattle.kinds.specs.Codes.{code_of}
use Rattle.kinds.specs.declared.kind.Kind.TheVariants as Kind
use Rattle.leaf.specs.Leaves.{leaf_of}
use Rattle.leaf.specs.declared.Leaf.{Leaf}
use Rattle.refusal.specs.declared.Refusal.{Refusal}
use Rattle.refusal.specs.declared.Stop.{Stop}
use Rattle.rows.specs.Put.{row_of}
use Rattle.rows.specs.RowLaws.{sets-append}
use Rattle.text.specs.declared.cursor.Cursor.{Cursor}
use Rattle.text.specs.Reads.{Gives, Over, byte_p}
use Rattle.heads.specs.declared.Head.{Head}
use Rattle.heads.specs.declared.Head.TheVariants as head
use Rattle.text3.specs.Hello.{fields_of}
use Rattle.text3.specs.declared.hello.Greeting.{Greeting}
use Rattle.heads.specs.Steps.{step_of, array_of}
use Rattle.walk.specs.declared.walked.Walked.{Walked}
use Rattle.walk.specs.Walks.{Walks, Wrote, walked, put_if, greeted_p}
use Rattle.walk.specs.Tops.{typed_p}
use Rattle.walk.proofs.Said.{gives-done, gives-stopped, stopped, then-stop, walks-done, walks-stopped, walks-stop, walks-to, walks-as}
use Rattle.walk.proofs.Placing.{put-length, leaf-words}

-- ---- a type byte

module _ {A : Type 0} (π : Profile) (f : ℕ → Prog A) (c : Cursor) (lim used : ℕ) where
  typed : run (type_p π f) c.src.now lim c.at used ≡ then (run byte_p c.src.now lim c.at used) (λ b n u. run (f (kind_of π b)) c.src.now lim n u)
  unfolding bind
  typed = run_bind byte_p (λ b. f (kind_of π b)) c.src.now lim c.at used

  typed-there : {b : ℕ} {n : Cursor} → Gives byte_p (λ b. b) c (Ok (b, n)) → run (type_p π f) c.src.now lim c.at used ≡ run (f (kind_of π b)) n.src.now lim n.at used
  typed-there {b} {n} g = typed ∙ rw (gives-done lim used g) (ap (λ (s : List ℕ). run (f (kind_of π b)) s lim n.at used) (sym g.over))

  pub typed-stop : {e : Stop} → Gives byte_p (λ b. b) c (Err e) → run (type_p π f) c.src.now lim c.at used ≡ stopped e
  typed-stop {e} g = typed ∙ rw (gives-stopped lim used g) (then-stop e (λ b n u. run (f (kind_of π b)) c.src.now lim n u))

-- ---- a frame

module _ (π : Profile) (d : ℕ) where
  abbrev pub choice : ℕ → Prog Forest
  choice k = pick (eqb k attribute_kind) (attribute_p π (frame_p π (d - 1))) (body_p π (frame_p π (d - 1)) 0 k)

  module _ (some : d ≡ 0 → ⊥) (c : Cursor) (lim used : ℕ) where
    full : lim ≤ used → run (frame_p π d) c.src.now lim c.at used ≡ refused 11 c.at
    full h = let e : d ≡ suc (d - 1) = omega arith in ap (λ (k : ℕ). run (frame_p π k) c.src.now lim c.at used) e ∙ frame-full π c.src.now lim c.at used (d - 1) h

    module _ (fits : used < lim) where
      pub framed : run (frame_p π d) c.src.now lim c.at used ≡ run (type_p π choice) c.src.now lim c.at (used + 1)
      framed = let e : d ≡ suc (d - 1) = omega arith in ap (λ (k : ℕ). run (frame_p π k) c.src.now lim c.at used) e ∙ frame-typed π c.src.now lim c.at used (d - 1) fits

      pub chosen : {b : ℕ} {n : Cursor} (k : ℕ) → Gives byte_p (λ b. b) c (Ok (b, n)) → k ≡ kind_of π b → run (frame_p π d) c.src.now lim c.at used ≡ run (choice k) n.src.now lim n.at (used + 1)
      chosen {b} {n} k g e = framed ∙ typed-there π choice c lim (used + 1) g ∙ ap (λ (j : ℕ). run (choice j) n.src.now lim n.at (used + 1)) (sym e)

  module _ {w : Bool} {c : Cursor} {lim used : ℕ} {t₀ : List ℕ} where
    pub frame-0 : d ≡ 0 → Walks (frame_p π d) w c lim used used t₀ t₀ (Err (Stop.Refused Refusal.Depth c.at))
    frame-0 e = walks-stop (rw e (frame-deep π c.src.now lim c.at used)) (λ y. refl) refl

    module _ (some : d ≡ 0 → ⊥) where
      pub frame-no-room : lim ≤ used → Walks (frame_p π d) w c lim used used t₀ t₀ (Err (Stop.Refused Refusal.Rows c.at))
      frame-no-room h = walks-stop (full some c lim used h) (λ y. refl) refl

      module _ (fits : used < lim) where
        pub frame-stops : {e : Stop} → Gives byte_p (λ b. b) c (Err e) → Walks (frame_p π d) w c lim used used t₀ t₀ (Err e)
        frame-stops g = walks-stop (framed some c lim used fits ∙ typed-stop π choice c lim (used + 1) g) (λ y. refl) refl

        module _ {b : ℕ} {n : Cursor} (k : ℕ) (g : Gives byte_p (λ b. b) c (Ok (b, n))) (e : k ≡ kind_of π b) {t₁ : List ℕ} {r : Result (Walked × Cursor) Stop} where
          pub frame-rest : Walks (typed_p π (d - 1) k) w n lim (used + 1) used t₀ t₁ r → Walks (frame_p π d) w c lim used used t₀ t₁ r
          frame-rest v = walks-as g.over refl (chosen some c lim used fits k g e) v

-- ---- a frame by its kind

module _ (π : Profile) (d k : ℕ) {w : Bool} {c : Cursor} {lim used row : ℕ} {t₀ t₁ : List ℕ} {r : Result (Walked × Cursor) Stop} where
  pub typed-attribute : eqb k attribute_kind ≡ true → Walks (attribute_p π (frame_p π d)) w c lim used row t₀ t₁ r → Walks (typed_p π d k) w c lim used row t₀ t₁ r
  typed-attribute q v = rw q v

  pub typed-body : eqb k attribute_kind ≡ false → Walks (body_p π (frame_p π d) 0 k) w c lim used row t₀ t₁ r → Walks (typed_p π d k) w c lim used row t₀ t₁ r
  typed-body q v = rw q v

-- ---- a frame behind its type byte, by its head

module _ (π : Profile) (p : Prog Forest) (a k : ℕ) where
  module _ (c : Cursor) (lim used : ℕ) where
    bodied : run (body_p π p a k) c.src.now lim c.at used ≡ then (run (head_p π k) c.src.now lim c.at used) (λ st n u. run (rest_p p a st) c.src.now lim n u)
    bodied = run_bind (head_p π k) (rest_p p a) c.src.now lim c.at used

    pub headed : {h : Head} {n : Cursor} → Gives (head_p π k) step_of c (Ok (h, n)) → run (body_p π p a k) c.src.now lim c.at used ≡ run (rest_p p a (step_of h)) n.src.now lim n.at used
    headed {h} {n} g = bodied ∙ rw (gives-done lim used g) (ap (λ (s : List ℕ). run (rest_p p a (step_of h)) s lim n.at used) (sym g.over))

  module _ {w : Bool} {c : Cursor} {lim row : ℕ} {t₀ : List ℕ} where
    pub body-stops : {e : Stop} → Gives (head_p π k) step_of c (Err e) → Walks (body_p π p a k) w c lim (row + 1) row t₀ t₀ (Err e)
    body-stops {e} g =
        walks-stop (bodied c lim (row + 1) ∙ rw (gives-stopped lim (row + 1) g) (then-stop e (λ st n u. run (rest_p p a st) c.src.now lim n u))) (λ y. refl) refl

    pub near-stops : {e : Stop} → Gives (head_p π k) leaf_of c (Err e) → Walks (body_p π p a k) w c lim (row + 1) row t₀ t₀ (Err e)
    near-stops {e} g = go e g
      where
        go : (e : Stop) → Gives (head_p π k) leaf_of c (Err e) → Walks (body_p π p a k) w c lim (row + 1) row t₀ t₀ (Err e)
        go (Stop.Refused r n) g = body-stops (record { means = g.means; over = g.over })
        go Stop.Unfinished g = body-stops (record { means = g.means; over = g.over })

    module _ (h : Head) {n : Cursor} (g : Gives (head_p π k) step_of c (Ok (h, n))) {t₁ : List ℕ} where
      pub body-rest : {r : Result (Walked × Cursor) Stop} → Walks (rest_p p a (step_of h)) w n lim (row + 1) row t₀ t₁ r → Walks (body_p π p a k) w c lim (row + 1) row t₀ t₁ r
      body-rest v = walks-as g.over refl (headed c lim (row + 1) g) v

    -- HELLO's rows
    pub body-hello : (g : Greeting) {n : Cursor} → Gives (head_p π k) step_of c (Ok (head.Hello g, n)) → {t₁ : List ℕ} {r : Result (Walked × Cursor) Stop}
        → Walks (greeted_p a g.version (fields_of g)) w n lim (row + 1) row t₀ t₁ r → Walks (body_p π p a k) w c lim (row + 1) row t₀ t₁ r
    unfolding greeted_p rest_p
    body-hello g v x = walks-as v.over refl (headed c lim (row + 1) v) x

    pub body-leaf : (l : Leaf) {n : Cursor} → Gives (head_p π k) step_of c (Ok (head.Leaf l, n)) → row < lim → lim ≤ most_rows → {t₁ : List ℕ}
        → t₁ ≡ put_if w t₀ row (row_of (node_of (code_of l.kind) l.w1 l.w2 l.w3 a) 1)
        → Walks (body_p π p a k) w c lim (row + 1) row t₀ t₁ (Ok (record { used = row + 1; kind = l.kind }, n))
    unfolding frame_kind
    body-leaf l {n} g le few {t₁} e =
        let x : Node = node_of (code_of l.kind) l.w1 l.w2 l.w3 a in
        walks-to (item x end end) _ n (headed c lim (row + 1) g ∙ leaf-run p a n.src.now lim n.at (row + 1) (code_of l.kind) l.w1 l.w2 l.w3) refl
        (λ y room. e ∙ rw y (leaf-words x t₀ row lim le few room)) (λ y. e ∙ rw y refl) (ap length e ∙ put-length w t₀ row _) g.over

    pub body-near : (l : Leaf) {n : Cursor} → Gives (head_p π k) leaf_of c (Ok (l, n)) → row < lim → lim ≤ most_rows → {t₁ : List ℕ}
        → t₁ ≡ put_if w t₀ row (row_of (node_of (code_of l.kind) l.w1 l.w2 l.w3 a) 1)
        → Walks (body_p π p a k) w c lim (row + 1) row t₀ t₁ (Ok (record { used = row + 1; kind = l.kind }, n))
    body-near l g le few e = body-leaf l (record { means = g.means; over = g.over }) le few e

    pub body-array : (n : ℕ) {m : Cursor} → Gives (head_p π k) array_of c (Ok (n, m)) → {t₁ : List ℕ} {r : Result (Walked × Cursor) Stop}
        → Walks (rest_p p a (holder array_kind n)) w m lim (row + 1) row t₀ t₁ r → Walks (body_p π p a k) w c lim (row + 1) row t₀ t₁ r
    body-array n g v = body-rest (head.Holder Kind.Array n) (record { means = g.means; over = g.over }) v

-- ---- the frame of an attribute

-- a frame that an attribute may stand on
abbrev pub carry : Forest → ℕ → ℕ → Out Forest
carry f n u = pick (may_carry (frame_kind f)) (done f n u) (refused 9 n)

module _ (π : Profile) (p : Prog Forest) (a : ℕ) where
  abbrev choose : ℕ → Prog Forest
  choose k = pick (eqb k attribute_kind) (refuse 7) (bind (body_p π p a k) (carries_p end))

  module _ (c : Cursor) (lim used : ℕ) (fits : used < lim) where
    second : run (annotated_p π p a end) c.src.now lim c.at used ≡ run (type_p π choose) c.src.now lim c.at (used + 1)
    unfolding run annotated_p
    second = rw (lt-ltb used lim fits)

    second-chosen : {b : ℕ} {n : Cursor} (k : ℕ) → Gives byte_p (λ b. b) c (Ok (b, n)) → k ≡ kind_of π b → run (annotated_p π p a end) c.src.now lim c.at used ≡ run (choose k) n.src.now lim n.at (used + 1)
    second-chosen {b} {n} k g e = second ∙ typed-there π choose c lim (used + 1) g ∙ ap (λ (j : ℕ). run (choose j) n.src.now lim n.at (used + 1)) (sym e)

    second-body : {b : ℕ} {n : Cursor} (k : ℕ) → Gives byte_p (λ b. b) c (Ok (b, n)) → k ≡ kind_of π b → eqb k attribute_kind ≡ false
        → run (annotated_p π p a end) c.src.now lim c.at used ≡ then (run (body_p π p a k) n.src.now lim n.at (used + 1)) carry
    unfolding run carries_p join
    second-body {b} {n} k g e q = second-chosen k g e ∙ rw (q, run_bind (body_p π p a k) (carries_p end) n.src.now lim n.at (used + 1)) (go (run (body_p π p a k) n.src.now lim n.at (used + 1)))
      where
        by : (f : Forest) (m u : ℕ) (b : Bool) → run (pick b (ret f) (refuse 9)) n.src.now lim m u ≡ pick b (done f m u) (refused 9 m)
        by f m u true = refl
        by f m u false = refl

        go : (o : Out Forest) → then o (λ f m u. run (carries_p end f) n.src.now lim m u) ≡ then o carry
        go (done f m u) = by f m u (may_carry (frame_kind f))
        go (refused j m) = refl
        go unfinished = refl

  module _ {w : Bool} {c : Cursor} {lim used : ℕ} {t₀ : List ℕ} where
    pub annotated-full : lim ≤ used → Walks (annotated_p π p a end) w c lim used used t₀ t₀ (Err (Stop.Refused Refusal.Rows c.at))
    unfolding run annotated_p
    annotated-full h = walks-stop (rw (le-ltb used lim h)) (λ y. refl) refl

    module _ (fits : used < lim) where
      pub annotated-short : {e : Stop} → Gives byte_p (λ b. b) c (Err e) → Walks (annotated_p π p a end) w c lim used used t₀ t₀ (Err e)
      annotated-short g = walks-stop (second c lim used fits ∙ typed-stop π choose c lim (used + 1) g) (λ y. refl) refl

      module _ {b : ℕ} {n : Cursor} (k : ℕ) (g : Gives byte_p (λ b. b) c (Ok (b, n))) (e : k ≡ kind_of π b) {x : Bool} (i : x ≡ eqb k attribute_kind) where
        pub annotated-twice : x ≡ true → Walks (annotated_p π p a end) w c lim used used t₀ t₀ (Err (Stop.Refused Refusal.Attribute n.at))
        unfolding run
        annotated-twice q = walks-stop (second-chosen c lim used fits k g e ∙ rw (sym i ∙ q) refl) (λ y. refl) refl

        module _ (q : x ≡ false) {t₁ : List ℕ} where
          pub annotated-stops : {s : Stop} → Walks (body_p π p a k) w n lim (used + 1) used t₀ t₁ (Err s) → Walks (annotated_p π p a end) w c lim used used t₀ t₁ (Err s)
          annotated-stops {s} v = walks-stop (second-body c lim used fits k g e (sym i ∙ q) ∙ rw (walks-stopped v) (then-stop s carry)) v.kept v.keeps

          module _ {o : Walked} {m : Cursor} (v : Walks (body_p π p a k) w n lim (used + 1) used t₀ t₁ (Ok (o, m))) {y : Bool} (j : y ≡ may_carry (code_of o.kind)) where
            -- a frame that may carry none
            pub annotated-dropped : y ≡ false → Walks (annotated_p π p a end) w c lim used used t₀ t₁ (Err (Stop.Refused Refusal.Carrier m.at))
            annotated-dropped z =
                let f = walks-done v in
                let h : may_carry (frame_kind f.0) ≡ false = ap may_carry (sym f.2) ∙ sym j ∙ z in
                walks-stop (second-body c lim used fits k g e (sym i ∙ q) ∙ rw (f.1, h) refl) v.kept v.keeps

            pub annotated-carried : y ≡ true → Walks (annotated_p π p a end) w c lim used used t₀ t₁ (Ok (o, m))
            annotated-carried z =
                let f = walks-done v in
                let h : may_carry (frame_kind f.0) ≡ true = ap may_carry (sym f.2) ∙ sym j ∙ z in
                let r : run (annotated_p π p a end) c.src.now lim c.at used ≡ run (body_p π p a k) n.src.now lim n.at (used + 1) = second-body c lim used fits k g e (sym i ∙ q) ∙ rw (f.1, h) refl in
                walks-as g.over refl r v

-- with the attribute before it
annotated-join : (π : Profile) (p : Prog Forest) (w : ℕ) (a : Forest) (s : List ℕ) (lim at used : ℕ)
    → run (annotated_p π p w a) s lim at used ≡ map_out (join a) (run (annotated_p π p w end) s lim at used)
unfolding run annotated_p carries_p join
annotated-join π p w a s lim at used = rooms (ltb used lim)
  where
    judged : (f : Forest) (n u : ℕ) (b : Bool) → run (pick b (ret (join a f)) (refuse 9)) s lim n u ≡ map_out (join a) (run (pick b (ret f) (refuse 9)) s lim n u)
    judged f n u true = refl
    judged f n u false = refl

    over-body : (o : Out Forest) → then o (λ f n u. run (carries_p a f) s lim n u) ≡ map_out (join a) (then o (λ f n u. run (carries_p end f) s lim n u))
    over-body (done f n u) = judged f n u (may_carry (frame_kind f))
    over-body (refused j n) = refl
    over-body unfinished = refl

    kinds : (k n : ℕ) (b : Bool) → run (pick b (refuse 7) (bind (body_p π p w k) (carries_p a))) s lim n (used + 1)
        ≡ map_out (join a) (run (pick b (refuse 7) (bind (body_p π p w k) (carries_p end))) s lim n (used + 1))
    kinds k n true = refl
    kinds k n false =
        run_bind (body_p π p w k) (carries_p a) s lim n (used + 1)
        ∙ over-body (run (body_p π p w k) s lim n (used + 1))
        ∙ ap (map_out (join a)) (sym (run_bind (body_p π p w k) (carries_p end) s lim n (used + 1)))

    asked : (o : Option ℕ)
        → served o (λ n. run (pick (eqb (kind_of π (get_or (take n (drop at s)) 0 0)) attribute_kind) (refuse 7) (bind (body_p π p w (kind_of π (get_or (take n (drop at s)) 0 0))) (carries_p a))) s lim (at + n) (used + 1))
        ≡ map_out (join a)
        (served o (λ n. run (pick (eqb (kind_of π (get_or (take n (drop at s)) 0 0)) attribute_kind) (refuse 7) (bind (body_p π p w (kind_of π (get_or (take n (drop at s)) 0 0))) (carries_p end))) s lim (at + n) (used + 1)))
    asked none = refl
    asked (some n) = kinds (kind_of π (get_or (take n (drop at s)) 0 0)) (at + n) (eqb (kind_of π (get_or (take n (drop at s)) 0 0)) attribute_kind)

    rooms : (b : Bool)
        → roomed b at (λ n. run (type_p π (λ k. pick (eqb k attribute_kind) (refuse 7) (bind (body_p π p w k) (carries_p a)))) s lim n (used + 1))
        ≡ map_out (join a) (roomed b at (λ n. run (type_p π (λ k. pick (eqb k attribute_kind) (refuse 7) (bind (body_p π p w k) (carries_p end)))) s lim n (used + 1)))
    rooms true = asked (serves (bytes 1) (drop at s))
    rooms false = refl

-- ---- an attribute and its frame

-- frames, and not none
data Some : Forest → Type 0 where
  some_of : (h : Node) (k r : Forest) → Some (item h k r)

item-some : (k : ℕ) (f : Forest) → Item k f → Some f
item-some k f (item_of h j e) = some_of h j end

kind-join : (k : ℕ) (a f : Forest) → Item k a → Some f → frame_kind (join a f) ≡ frame_kind f
unfolding join frame_kind
kind-join k a f (item_of h j e) (some_of g l r) = refl

module _ (π : Profile) (d : ℕ) (s : List ℕ) (lim at used : ℕ) where
  first-item : When (λ f n u. Item attribute_kind f) (run (body_p π (frame_p π d) 0 attribute_kind) s lim at used)
  first-item =
      gives-run (Item attribute_kind) (body_p π (frame_p π d) 0 attribute_kind)
      (body-gives π (frame_p π d) 0 attribute_kind (λ st. step_kind st ≡ attribute_kind) (Item attribute_kind) (attribute-head π) (λ st h f x. subst (λ (z : ℕ). Item z f) h x))
      s lim at used

  second-some : (w n u : ℕ) → When (λ f a b. Some f) (run (annotated_p π (frame_p π d) w end) s lim n u)
  unfolding annotated_p carries_p join
  second-some w n u = gives-run Some (annotated_p π (frame_p π d) w end) (λ c. kinds (kind_of π (get_or c 0 0)) (eqb (kind_of π (get_or c 0 0)) attribute_kind)) s lim n u
    where
      carried : (f : Forest) → Some f → (b : Bool) → All Some (pick b (ret f) (refuse 9))
      carried f h true = h
      carried f h false = tt

      any : (q : Prog Step) → All (λ st. Unit {0}) q
      any (ret a) = tt
      any (refuse j) = tt
      any (room q) = any q
      any (here f) = λ i j. any (f i j)
      any (ask e f) = λ c. any (f c)

      kinds : (k : ℕ) (b : Bool) → All Some (pick b (refuse 7) (bind (body_p π (frame_p π d) w k) (carries_p end)))
      kinds k true = tt
      kinds k false =
          gives-bind Some Some (body_p π (frame_p π d) w k) (carries_p end)
          (body-gives π (frame_p π d) w k (λ st. Unit {0}) Some (any (head_p π k)) (λ st h f x. item-some (step_kind st) f x))
          (λ f h. carried f h (may_carry (frame_kind f)))

  attribute-run : run (attribute_p π (frame_p π d)) s lim at used
      ≡ then (run (body_p π (frame_p π d) 0 attribute_kind) s lim at used) (λ a n u. run (annotated_p π (frame_p π d) used a) s lim n u)
  unfolding run attribute_p
  attribute-run = run_bind (body_p π (frame_p π d) 0 attribute_kind) (annotated_p π (frame_p π d) used) s lim at used

module _ (π : Profile) (d : ℕ) {w : Bool} {c : Cursor} {lim row : ℕ} {t₀ t₁ : List ℕ} where
  pub attribute-stops : {e : Stop} → Walks (body_p π (frame_p π d) 0 attribute_kind) w c lim (row + 1) row t₀ t₁ (Err e) → Walks (attribute_p π (frame_p π d)) w c lim (row + 1) row t₀ t₁ (Err e)
  attribute-stops {e} v =
      walks-stop (attribute-run π d c.src.now lim c.at (row + 1) ∙ rw (walks-stopped v) (then-stop e (λ a n u. run (annotated_p π (frame_p π d) (row + 1) a) c.src.now lim n u))) v.kept v.keeps

  -- the attribute's rows, and then those of its frame
  pub attributed : {t₂ : List ℕ} {o : Walked} {m : Cursor} {r : Result (Walked × Cursor) Stop} → Walks (body_p π (frame_p π d) 0 attribute_kind) w c lim (row + 1) row t₀ t₁ (Ok (o, m))
      → Walks (annotated_p π (frame_p π d) (row + 1) end) w m lim o.used o.used t₁ t₂ r
      → Walks (attribute_p π (frame_p π d)) w c lim (row + 1) row t₀ t₂ r
  attributed {t₂} {o} {m} {r} first second =
      let x = walks-done first in
      by x.0 x.1 (subst (When (λ f n u. Item attribute_kind f)) x.1 (first-item π d c.src.now lim c.at (row + 1)))
      (subst (When (λ f n u. u + 1 ≡ row + 1 + span f)) x.1 (weighs-run span (body_p π (frame_p π d) 0 attribute_kind) 1 (body-fills π (frame_p π d) (frame-fills π d) 0 attribute_kind) c.src.now lim c.at (row + 1)))
      (subst (Wrote w row lim t₀ t₁) x.1 first.leaves)
    where
      behind : Out Forest
      behind = run (annotated_p π (frame_p π d) (row + 1) end) c.src.now lim m.at o.used

      same : run (annotated_p π (frame_p π d) (row + 1) end) m.src.now lim m.at o.used ≡ run (annotated_p π (frame_p π d) (row + 1) end) c.src.now lim m.at o.used
      same = ap (λ (s : List ℕ). run (annotated_p π (frame_p π d) (row + 1) end) s lim m.at o.used) first.over

      finish : (a : Forest) → Item attribute_kind a → o.used + 1 ≡ row + 1 + span a → (w ≡ true → row_width * lim ≤ length t₀ → t₁ ≡ sets t₀ (row_width * row) (words a)) → (q : Out Forest)
          → When (λ f n u. Some f) q → walked r ≡ map_out frame_kind q → Wrote w o.used lim t₁ t₂ q
          → (walked r ≡ map_out frame_kind (map_out (join a) q)) × Wrote w row lim t₀ t₂ (map_out (join a) q)
      finish a i count wrote (done f n u) h says leaves = (
        says ∙ ap (λ (z : ℕ). done z n u) (sym (kind-join attribute_kind a f i h)),
        λ y g. leaves y (omega (arith, first.keeps)) ∙ ap (λ (l : List ℕ). sets l (row_width * o.used) (words f)) (wrote y g)
            ∙ sets-append (words a) t₀ (words f) (row_width * row) (row_width * o.used) (omega (arith, length-words a))
            ∙ ap (sets t₀ (row_width * row)) (sym (words-join a f)),
      )
      finish a i count wrote (refused j n) h says leaves = (says, tt)
      finish a i count wrote unfinished h says leaves = (says, tt)

      by : (a : Forest) → run (body_p π (frame_p π d) 0 attribute_kind) c.src.now lim c.at (row + 1) ≡ done a m.at o.used → Item attribute_kind a → o.used + 1 ≡ row + 1 + span a
          → (w ≡ true → row_width * lim ≤ length t₀ → t₁ ≡ sets t₀ (row_width * row) (words a)) → Walks (attribute_p π (frame_p π d)) w c lim (row + 1) row t₀ t₂ r
      by a e i count wrote =
          let q : run (attribute_p π (frame_p π d)) c.src.now lim c.at (row + 1) ≡ map_out (join a) (run (annotated_p π (frame_p π d) (row + 1) end) c.src.now lim m.at o.used) =
          attribute-run π d c.src.now lim c.at (row + 1) ∙ rw e (annotated-join π (frame_p π d) (row + 1) a c.src.now lim m.at o.used) in
          let z = finish a i count wrote (run (annotated_p π (frame_p π d) (row + 1) end) c.src.now lim m.at o.used) (second-some π d c.src.now lim m.at o.used (row + 1) m.at o.used)
          (second.says ∙ ap (map_out frame_kind) same) (subst (Wrote w o.used lim t₁ t₂) same second.leaves) in
          record {
            says = z.0 ∙ ap (map_out frame_kind) (sym q);
            leaves = subst (Wrote w row lim t₀ t₂) (sym q) z.1;
            kept = λ y. second.kept y ∙ first.kept y;
            keeps = second.keeps ∙ first.keeps;
            over = subst (λ (s : List ℕ). Over s r) first.over second.over;
          }
