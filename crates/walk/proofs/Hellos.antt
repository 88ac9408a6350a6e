-- The rows of a HELLO line, one after another, as the words of its item.
use Rattle.std.specs.Prelude.{◌≡◌, Bool, true, false, ℕ, zero, suc, ◌+◌, ◌-◌, ◌*◌, ◌≤◌, ◌<◌, List, [], ◌++◌, Option, None, Some, Ok, Err, length, ltb}
use Rattle.std.proofs.Common.{refl, sym, ap, subst, ◌∙◌, arith, add-zero, append-nil, lt-ltb, ltb-true}
use Rattle.std.proofs.lemmas.List.{length-append, append_assoc}
use Rattle.std.proofs.lemmas.List.Edits.{sets}
use Rattle.meaning.specs.Prog.{Prog, ret, run, roomed, done, refused}
use Rattle.meaning.specs.Kinds.{hello_kind, user_kind, password_kind, name_kind}
use Rattle.meaning.specs.Rows.{Node, node_of, Forest, end, item, frame_kind, span, words, row_width, most_rows}
use Rattle.meaning.specs.RowsLaws.{length-words}
use Rattle.meaning.specs.Frames.{rooms_p}
use Rattle.kinds.specs.declared.kind.Kind.{Kind}
use Rattle.refusal.specs.declared.Refusal.{Refusal}
use Rattle.refusal.specs.declared.Stop.{Stop}
use Rattle.rows.specs.declared.Row.{Row}
use Rattle.rows.specs.Put.{row_of, words_of_row}
use Rattle.rows.specs.RowLaws.{put-there, sets-append}
use Rattle.text.specs.declared.cursor.Cursor.{Cursor}
use Rattle.text3.specs.declared.hello.Span.{Span}
use Rattle.text3.specs.declared.hello.Login.{Login}
use Rattle.text3.specs.declared.hello.Greeting.{Greeting}
use Rattle.text3.specs.Hello.{fields_of, login_fields, name_fields}
use Rattle.walk.specs.Walks.{Walks, put_if, greeted_p}
use Rattle.walk.proofs.Said.{walks-stop, walks-to}
use Rattle.walk.proofs.Placing.{put-length}

-- ---- room for rows

module _ {A : Type 0} (p : Prog A) (s : List ℕ) (lim at : ℕ) where
  rooms-fit : (n used : ℕ) → used + n ≤ lim → run (rooms_p n p) s lim at used ≡ run p s lim at (used + n)
  unfolding rooms_p run
  rooms-fit zero used h = rw add-zero
  rooms-fit (suc n) used h =
      let e : used + 1 + n ≡ used + suc n = omega arith in
      let l : used < lim = omega arith in
      rw (lt-ltb used lim l) (rooms-fit n (used + 1) (omega arith) ∙ ap (run p s lim at) e)

  rooms-full : (n used : ℕ) → used ≤ lim → lim < used + n → run (rooms_p n p) s lim at used ≡ refused 11 at
  unfolding rooms_p run
  rooms-full zero used r h = absurd (omega arith)
  rooms-full (suc n) used r h = go (ltb used lim) refl (λ l. rooms-full n (used + 1) l (omega arith))
    where
      go : (b : Bool) → ltb used lim ≡ b → (used + 1 ≤ lim → run (rooms_p n p) s lim at (used + 1) ≡ refused 11 at)
          → roomed b at (λ k. run (rooms_p n p) s lim k (used + 1)) ≡ refused 11 at
      go true e ih = ih (omega (arith, ltb-true used lim e))
      go false e ih = refl

-- ---- rows one after another

-- a table that held t₀, with the words of rows from `first` on; `row` is the next
pub record Filled (w : Bool) (lim first : ℕ) (t₀ t : List ℕ) (row : ℕ) (vs : List ℕ) : Type 0 where
  pub holds : w ≡ true → row_width * lim ≤ length t₀ → t ≡ sets t₀ (row_width * first) vs
  pub kept : w ≡ false → t ≡ t₀
  pub same : length t ≡ length t₀
  pub place : row_width * row ≡ row_width * first + length vs

module _ {w : Bool} {lim first : ℕ} {t₀ : List ℕ} where
  pub filled-none : Filled w lim first t₀ t₀ first []
  filled-none = record { holds = λ y g. refl; kept = λ y. refl; same = refl; place = omega arith }

  pub filled-next : lim ≤ most_rows → {t : List ℕ} {row : ℕ} {vs : List ℕ} → Filled w lim first t₀ t row vs → row < lim → (r : Row) {t' : List ℕ} → t' ≡ put_if w t row r
      → Filled w lim first t₀ t' (row + 1) (vs ++ words_of_row r)
  filled-next few {t} {row} {vs} f h r {t'} e = record {
    holds = λ y g. e ∙ rw y (put-there t row r (omega arith) (omega (arith, f.same)) ∙ ap (λ (l : List ℕ). sets l (row_width * row) (words_of_row r)) (f.holds y g)
        ∙ sets-append vs t₀ (words_of_row r) (row_width * first) (row_width * row) f.place);
    kept = λ y. e ∙ rw y (f.kept y);
    same = ap length e ∙ put-length w t row r ∙ f.same;
    place = omega (arith, f.place, length-append vs (words_of_row r));
  }

-- ---- a line's rows

-- HELLO's own row, whose span counts the fields'
abbrev pub own_row : ℕ → ℕ → Forest → Row
own_row a v f = row_of (node_of hello_kind 0 0 v a) (1 + span f)

abbrev pub field_row : ℕ → Span → Row
field_row k s = row_of (node_of k s.from s.to 0 0) 1

-- the words of a field's row
field-words : (k : ℕ) (s : Span) → words_of_row (field_row k s) ≡ words (item (node_of k s.from s.to 0 0) end end)
unfolding words span
field-words k s = refl

own-words : (a v : ℕ) (f : Forest) → words (item (node_of hello_kind 0 0 v a) f end) ≡ words_of_row (own_row a v f) ++ words f
unfolding words
own-words a v f =
    let e : span f + 1 ≡ 1 + span f = omega arith in
    rw (append-nil (words f), e) refl

span-item : (h : Node) (f : Forest) → span (item h f end) ≡ span f + 1
unfolding span
span-item h f = omega arith

login-words : (l : Option Login) (rest : Forest) → words (login_fields l rest) ≡ words (login_fields l end) ++ words rest
unfolding words span
login-words None rest = refl
login-words (Some l) rest = refl

login-span : (l : Option Login) (rest : Forest) → span (login_fields l rest) ≡ span (login_fields l end) + span rest
unfolding span
login-span None rest = omega arith
login-span (Some l) rest = omega arith

module _ {w : Bool} {lim first : ℕ} {t₀ : List ℕ} (few : lim ≤ most_rows) {t : List ℕ} {row : ℕ} {vs : List ℕ} (f : Filled w lim first t₀ t row vs) where
  -- a user's row and a password's
  pub filled-login : {o : Option Login} {l : Login} → o ≡ Some l → {t₁ t₂ : List ℕ} → row + 1 < lim → t₁ ≡ put_if w t row (field_row user_kind l.user) → t₂ ≡ put_if w t₁ (row + 1) (field_row password_kind l.password)
      → Filled w lim first t₀ t₂ (row + 2) (vs ++ words (login_fields o end))
  unfolding words span
  filled-login {o} {l} is {t₁} {t₂} h e g =
      let n : row + 1 + 1 ≡ row + 2 = omega arith in
      let x = filled-next few (filled-next few f (omega arith) (field_row user_kind l.user) e) h (field_row password_kind l.password) g in
      subst (λ (o : Option Login). Filled w lim first t₀ t₂ (row + 2) (vs ++ words (login_fields o end))) (sym is)
      (subst (λ (n : ℕ). Filled w lim first t₀ t₂ n (vs ++ words (login_fields (Some l) end))) n
      (subst (Filled w lim first t₀ t₂ (row + 1 + 1)) (append_assoc vs (words_of_row (field_row user_kind l.user)) (words_of_row (field_row password_kind l.password))) x))

  pub filled-name : {o : Option Span} {s : Span} → o ≡ Some s → {t₁ : List ℕ} → row < lim → t₁ ≡ put_if w t row (field_row name_kind s) → Filled w lim first t₀ t₁ (row + 1) (vs ++ words (name_fields o))
  unfolding words span
  filled-name {o} {s} is {t₁} h e = subst (λ (o : Option Span). Filled w lim first t₀ t₁ (row + 1) (vs ++ words (name_fields o))) (sym is) (filled-next few f h (field_row name_kind s) e)

  pub filled-end : {g : Forest} → g ≡ end → Filled w lim first t₀ t row (vs ++ words g)
  unfolding words
  filled-end is = subst (λ (g : Forest). Filled w lim first t₀ t row (vs ++ words g)) (sym is) (subst (Filled w lim first t₀ t row) (sym (append-nil vs)) f)

-- ---- the answers

module _ (a : ℕ) (g : Greeting) where
  abbrev pub all_words : List ℕ
  all_words = (words_of_row (own_row a g.version (fields_of g)) ++ words (login_fields g.login end)) ++ words (name_fields g.name)

  -- there is room for a login's rows, and for a name's
  pub login-fits : {l : Login} {lim : ℕ} (row : ℕ) → g.login ≡ Some l → row + 1 + span (fields_of g) ≤ lim → row + 1 + 1 < lim
  unfolding span
  login-fits row e h =
      let two : span (login_fields g.login end) ≡ 2 = ap (λ (o : Option Login). span (login_fields o end)) e in
      omega (arith, login-span g.login (name_fields g.name))

  pub name-fits : {s : Span} {w : Bool} {lim row used : ℕ} {t₀ t : List ℕ} → g.name ≡ Some s → row + 1 + span (fields_of g) ≤ lim
      → Filled w lim row t₀ t used (words_of_row (own_row a g.version (fields_of g)) ++ words (login_fields g.login end)) → used < lim
  unfolding span
  name-fits {s} e h f =
      let one : span (name_fields g.name) ≡ 1 = ap (λ (o : Option Span). span (name_fields o)) e in
      omega (arith, login-span g.login (name_fields g.name), f.place, length-append (words_of_row (own_row a g.version (fields_of g))) (words (login_fields g.login end)), length-words (login_fields g.login end))

  module _ {w : Bool} {c : Cursor} {lim row : ℕ} {t₀ : List ℕ} where
    pub hello-full : row < lim → lim - (row + 1) < span (fields_of g) → Walks (greeted_p a g.version (fields_of g)) w c lim (row + 1) row t₀ t₀ (Err (Stop.Refused Refusal.Rows c.at))
    unfolding greeted_p
    hello-full h n = walks-stop (rooms-full (ret (item (node_of hello_kind 0 0 g.version a) (fields_of g) end)) c.src.now lim c.at (span (fields_of g)) (row + 1) (omega arith) (omega arith)) (λ y. refl) refl

    pub hello-walks : {t : List ℕ} {used : ℕ} → Filled w lim row t₀ t used all_words → row + 1 + span (fields_of g) ≤ lim
        → Walks (greeted_p a g.version (fields_of g)) w c lim (row + 1) row t₀ t (Ok (record { used = used; kind = Kind.Hello }, c))
    unfolding greeted_p frame_kind run
    hello-walks {t} {used} f h =
        let x : Forest = item (node_of hello_kind 0 0 g.version a) (fields_of g) end in
        let e : words x ≡ all_words =
        own-words a g.version (fields_of g)
        ∙ ap (λ (l : List ℕ). words_of_row (own_row a g.version (fields_of g)) ++ l) (login-words g.login (name_fields g.name))
        ∙ sym (append_assoc (words_of_row (own_row a g.version (fields_of g))) (words (login_fields g.login end)) (words (name_fields g.name))) in
        let n : length all_words ≡ row_width * span x = ap length (sym e) ∙ length-words x in
        let s : span x ≡ span (fields_of g) + 1 = span-item (node_of hello_kind 0 0 g.version a) (fields_of g) in
        let u : row + 1 + span (fields_of g) ≡ used = omega (arith, f.place, n, s) in
        walks-to x _ c (rooms-fit (ret x) c.src.now lim c.at (span (fields_of g)) (row + 1) h ∙ ap (λ (k : ℕ). done x c.at k) u) refl
        (λ y r. f.holds y r ∙ ap (sets t₀ (row_width * row)) (sym e)) f.kept f.same refl
