-- What a read gives: what a program comes to at the cursor's place, whatever the table.
use Rattle.std.specs.Prelude.{◌≡◌, ℕ, ◌-◌, List, Result, Ok, Err, length, take, get_or}
use Rattle.meaning.specs.Demand.{bytes, line}
use Rattle.meaning.specs.Prog.{Prog, ret, ask, run, Out, done, refused, unfinished}
use Rattle.meaning.specs.ProgLaws as Laws
use Rattle.refusal.specs.declared.Stop.{Stop}
use Rattle.refusal.specs.Numbers.{number_of}
use Rattle.text.specs.declared.cursor.Cursor.{Cursor}

-- an outcome for each table and each number of rows used
abbrev pub Read : Type 0 → Type 0
Read A = ℕ → ℕ → Out A

-- what a program comes to at a place of s
unfoldable pub reads : {A : Type 0} → Prog A → List ℕ → ℕ → Read A
reads p s at = λ lim used. run p s lim at used

-- a value and the place behind it; a refusal's number and the place that settled it; or neither yet: whatever the table
unfoldable pub given : {A : Type 0} → A → ℕ → Read A
given a n = λ lim used. done a n used

unfoldable pub stopped : {A : Type 0} → ℕ → ℕ → Read A
stopped k n = λ lim used. refused k n

unfoldable pub waiting : {A : Type 0} → Read A
waiting = λ lim used. unfinished

-- one read, then another with what it gave, from the place that it gave
infixl 10 ◌>>=◌
unfoldable pub ◌>>=◌ : {A B : Type 0} → Read A → (A → ℕ → Read B) → Read B
o >>= f = λ lim used. Laws.then (o lim used) (λ a n u. f a n lim u)

-- what the code answers, its value seen by `view`
abbrev pub told : {T A : Type 0} → (T → A) → Result (T × Cursor) Stop → Read A
told view (Ok x) = given (view x.0) x.1.at
told view (Err (Stop.Refused r n)) = stopped (number_of r) n
told view (Err Stop.Unfinished) = waiting

-- over the same bytes
abbrev pub Over : {T : Type 0} → List ℕ → Result (T × Cursor) Stop → Type 0
Over s (Ok x) = x.1.src.now ≡ s
Over s (Err e) = Unit {0}

-- What p gives at a cursor, whatever the table: a value, seen by `view`, and the cursor moved over the same bytes; or what stopped it.
pub record Gives {T A : Type 0} (p : Prog A) (view : T → A) (c : Cursor) (r : Result (T × Cursor) Stop) : Type 0 where
  pub means : reads p c.src.now c.at ≡ told view r
  pub over : Over c.src.now r

-- one byte
abbrev pub byte_p : Prog ℕ
byte_p = ask (bytes 1) (λ c. ret (get_or c 0 0))

-- n bytes
abbrev pub skip_p : ℕ → Prog (List ℕ)
skip_p n = ask (bytes n) ret

-- a line's text
abbrev pub text_p : Prog (List ℕ)
text_p = ask line (λ c. ret (take (length c - 2) c))
