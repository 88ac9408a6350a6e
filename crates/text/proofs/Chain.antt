-- One read after another, as `?` chains them.
use Rattle.std.specs.Prelude.{None, Some, ◌≡◌, ℕ, ◌+◌, ◌≤◌, ◌<◌, ◌-◌, List, [], ◌∷◌, ◌++◌, length, drop, take, get_or}
use Rattle.std.proofs.Common.{arith, ◌⊎◌, inl, inr, ◌∙◌, refl, ap, sym, leb, le-leb, drop-cons, length-append}
use Rattle.std.proofs.lemmas.List.{take-append-le, drop-drop}
use Rattle.std.proofs.Math.Seq.{take-length, take-add}
use Rattle.meaning.specs.Choice.{pick}
use Rattle.std.proofs.Math.Option as math
use Rattle.meaning.specs.Prog.{Prog, ret, refuse, here, ask, run, bind, Out, done, served}
use Rattle.meaning.specs.Demand.{bytes, line, serves, line_len, cr, lf}
use Rattle.meaning.specs.ProgLaws as Laws
use Rattle.meaning.specs.ProgLaws.{run_bind}
use Rattle.meaning.specs.RunLaws.{bytes-there, bytes-short, ask-some, ask-none}
use Rattle.text.specs.Reads.{Read, reads, given, stopped, waiting, ◌>>=◌, byte_p, skip_p, text_p}
use Rattle.text.specs.Lines.{found_of}
use Rattle.text.proofs.Lines.{line-to, line-text, line-ends, found_none, before}

-- ---- laws of reads: with these the check finds chains of `?` itself

-- two reads that come to the same whatever the table
same : {A : Type 0} {f g : Read A} → ((lim used : ℕ) → f lim used ≡ g lim used) → f ≡ g
same h = λ i lim used. h lim used i

pub reads_bind : {A B : Type 0} (p : Prog A) (f : A → Prog B) (s : List ℕ) (at : ℕ) → reads (bind p f) s at ≡ (reads p s at >>= λ a n. reads (f a) s n)
unfolding reads ◌>>=◌
reads_bind p f s at = same (λ lim used. run_bind p f s lim at used)

pub given_then : {A B : Type 0} (a : A) (n : ℕ) (f : A → ℕ → Read B) → (given a n >>= f) ≡ f a n
unfolding given ◌>>=◌
given_then a n f = refl

pub stopped_then : {A B : Type 0} (k n : ℕ) (f : A → ℕ → Read B) → (stopped k n >>= f) ≡ stopped k n
unfolding stopped ◌>>=◌
stopped_then k n f = refl

pub waiting_then : {A B : Type 0} (f : A → ℕ → Read B) → (waiting >>= f) ≡ waiting
unfolding waiting ◌>>=◌
waiting_then f = refl

pub reads_ret : {A : Type 0} (a : A) (s : List ℕ) (at : ℕ) → reads (ret a) s at ≡ given a at
unfolding reads run given
reads_ret a s at = refl

pub reads_refuse : {A : Type 0} (k : ℕ) (s : List ℕ) (at : ℕ) → reads {A = A} (refuse k) s at ≡ stopped k at
unfolding reads run stopped
reads_refuse k s at = refl

-- a program that asks for its place alone
pub reads_here : {A : Type 0} (q : ℕ → ℕ → Prog A) (s : List ℕ) (at : ℕ) → reads (here q) s at ≡ (λ lim used. reads (q at used) s at lim used)
unfolding reads run
reads_here q s at = refl

asked : {A : Type 0} (o : math.Option ℕ) (f : ℕ → Out A) (g : ℕ → Out (List ℕ)) (h : List ℕ → ℕ → ℕ → Out A) (c : ℕ → List ℕ) (at used : ℕ)
    → ((n : ℕ) → o ≡ math.some n → f n ≡ h (c n) (at + n) used) → ((n : ℕ) → g n ≡ done (c n) (at + n) used) → served o f ≡ Laws.then (served o g) h
asked math.none f g h c at used e d = refl
asked (math.some n) f g h c at used e d = rw (d n) (e n refl)

-- n bytes
pub reads_bytes : {A : Type 0} (n : ℕ) (k : List ℕ → Prog A) (s : List ℕ) (at : ℕ) → reads (ask (bytes n) k) s at ≡ (reads (skip_p n) s at >>= λ c m. reads (k c) s m)
unfolding reads ◌>>=◌ run
reads_bytes n k s at = same (λ lim used. asked (serves (bytes n) (drop at s)) _ _ _ (λ n. take n (drop at s)) at used (λ n e. refl) (λ n. refl))

-- a line: its text, and CR LF
unfoldable pub ended : List ℕ → List ℕ
ended t = t ++ (cr ∷ lf ∷ [])

pub text_ended : (t : List ℕ) → take (length (ended t) - 2) (ended t) ≡ t
unfolding ended
text_ended t =
    let z : length (t ++ (cr ∷ lf ∷ [])) - 2 ≡ length t = simp length-append (omega arith) in
    rw z (take-append-le (length t) t (cr ∷ lf ∷ []) (omega arith) ∙ take-length t)

pub reads_line : {A : Type 0} (k : List ℕ → Prog A) (s : List ℕ) (at : ℕ) → reads (ask line k) s at ≡ (reads text_p s at >>= λ t m. reads (k (ended t)) s m)
unfolding reads ◌>>=◌ run serves ended
reads_line k s at = same (λ lim used. asked (line_len (drop at s)) _ _ _ (λ n. take (length (take n (drop at s)) - 2) (take n (drop at s))) at used
    (λ n e. ap (λ (c : List ℕ). run (k c) s lim (at + n) used) (line-ends (drop at s) n e ∙ ap (λ (t : List ℕ). t ++ (cr ∷ lf ∷ [])) (sym (line-text (drop at s) n e))))
    (λ n. refl))

-- one byte
pub reads_byte : {A : Type 0} (k : List ℕ → Prog A) (s : List ℕ) (at : ℕ) → reads (ask (bytes 1) k) s at ≡ (reads byte_p s at >>= λ b m. reads (k (b ∷ [])) s m)
unfolding reads ◌>>=◌ run serves
reads_byte k s at = same (λ lim used. go lim used (drop at s))
  where
    go : (lim used : ℕ) (l : List ℕ) → served (pick (leb 1 (length l)) (math.some 1) math.none) (λ n. run (k (take n l)) s lim (at + n) used)
        ≡ Laws.then (served (pick (leb 1 (length l)) (math.some 1) math.none) (λ n. done (get_or (take n l) 0 0) (at + n) used)) (λ b m u. run (k (b ∷ [])) s lim m u)
    go lim used [] = refl
    go lim used (a ∷ l) = rw (le-leb 1 (length (a ∷ l)) (omega arith)) refl

-- ---- what the cursor finds

module _ (s : List ℕ) (at : ℕ) where
  pub byte_there : at < length s → reads byte_p s at ≡ given (get_or s at 0) (at + 1)
  unfolding reads run given
  byte_there h = same (λ lim used. rw (bytes-there s lim at used 1 (λ c. ret (get_or c 0 0)) (omega arith), drop-cons s at 0 h) refl)

  pub byte_missing : length s ≤ at → reads byte_p s at ≡ waiting
  unfolding reads waiting
  byte_missing h = same (λ lim used. bytes-short s lim at used 1 (λ c. ret (get_or c 0 0)) (omega arith))

  pub bytes_there : (n : ℕ) → n ≤ length s - at → reads (skip_p n) s at ≡ given (take n (drop at s)) (at + n)
  unfolding reads run given
  bytes_there n h = same (λ lim used. bytes-there s lim at used n ret h)

  pub bytes_missing : (n : ℕ) → length s - at < n → reads (skip_p n) s at ≡ waiting
  unfolding reads waiting
  bytes_missing n h = same (λ lim used. bytes-short s lim at used n ret h)

  -- a line that ends before m
  pub text_there : (m : ℕ) → at ≤ length s → Some m ≡ found_of at (line_len (drop at s)) → reads text_p s at ≡ given (take (m - 2 - at) (drop at s)) m
  unfolding reads run given serves
  text_there m h e =
      let l = line-to s at m h e in
      let n = l.0 in
      let a : at + n ≡ m = l.1.to in
      let z : m - 2 - at ≡ n - 2 = omega arith in
      same (λ lim used. rw (ask-some s lim at used line (λ b. ret (take (length b - 2) b)) n l.1.ends, line-text (drop at s) n l.1.ends, a, z) refl)

  pub text_missing : None ≡ found_of at (line_len (drop at s)) → reads text_p s at ≡ waiting
  unfolding reads waiting serves
  text_missing e = same (λ lim used. ask-none s lim at used line (λ b. ret (take (length b - 2) b)) (found_none at _ e))

-- n bytes and then m
pub reads_both : (n m : ℕ) (s : List ℕ) (at : ℕ) → reads (skip_p (n + m)) s at ≡ (reads (skip_p n) s at >>= λ a i. reads (skip_p m) s i >>= λ b j. given (a ++ b) j)
reads_both n m s at = go (before n (length s - at)) (before (n + m) (length s - at))
  where
    rest : List ℕ → ℕ → Read (List ℕ)
    rest a i = reads (skip_p m) s i >>= λ b j. given (a ++ b) j

    go : (n ≤ length s - at) ⊎ (length s - at < n) → (n + m ≤ length s - at) ⊎ (length s - at < n + m) → reads (skip_p (n + m)) s at ≡ (reads (skip_p n) s at >>= rest)
    go (inl h) (inl k) =
        let e : at + n + m ≡ at + (n + m) = omega arith in
        rw (bytes_there s at (n + m) k, bytes_there s at n h, given_then (take n (drop at s)) (at + n) rest, bytes_there s (at + n) m (omega arith), given_then (take m (drop (at + n) s)) (at + n + m) (λ b j. given (take n (drop at s) ++ b) j), take-add n m (drop at s), drop-drop n at s, e) refl
    go (inl h) (inr k) =
        rw (bytes_missing s at (n + m) k, bytes_there s at n h, given_then (take n (drop at s)) (at + n) rest, bytes_missing s (at + n) m (omega arith), waiting_then (λ b j. given (take n (drop at s) ++ b) j)) refl
    go (inr h) (inl k) = absurd (omega arith)
    go (inr h) (inr k) = rw (bytes_missing s at (n + m) k, bytes_missing s at n h, waiting_then rest) refl

pub ruleset finding = (byte_there, byte_missing, bytes_there, bytes_missing, text_there, text_missing)

pub ruleset reading = (reads_bind, given_then, stopped_then, waiting_then, reads_ret, reads_refuse, reads_here, reads_bytes, reads_line, text_ended, reads_byte, reads_both)
