-- A frame or marker lies in the window, and its rows in the table.
use Rattle.std.proofs.Common.{◌≡◌, ℕ, ◌+◌, ◌≤◌, List, Result, length, refl, rules}
use Rattle.meaning.specs.Kinds.{Profile}
use Rattle.meaning.specs.Rows.{rows_in}
use Rattle.meaning.specs.Frames.{depth_limit}
use Rattle.refusal.specs.declared.Stop.{Stop}
use Rattle.answers.specs.Answers.{Decoded, Took, rows_of}
use Rattle.answers.specs.Theorems.{frame-within}
use Rattle.answers.specs.declared.Answer.{Answer}
use Rattle.show.specs.Profiles.{profile_of}
use Rattle.show.proofs.capture.extent.Goals as goal

module _ (π : Profile) (s : List ℕ) (at : ℕ) (inside : at ≤ length s) (t₀ t₁ : List ℕ) (kept : length t₁ ≡ length t₀) (r : Result Answer Stop) (w : Decoded π depth_limit s at t₀ t₁ r) where
  within : (n : ℕ) → Took n r → (at + n ≤ length s) × (rows_of r ≤ rows_in (length t₁))
  within n h = let b = frame-within π depth_limit s at inside t₀ t₁ r w n h in (b.0, rw kept b.1)

pub returns-in-Frame : goal.returns-in-Frame
returns-in-Frame c =
    within (profile_of c.args.protocol) c.args.window.now c.args.at c.requires c.args.table.now c.decoded.new.table (search rules) _ (rw c.in-Frame.is at c.in_ok-answer.ensures) c.in-Frame.n refl

pub returns-in-Marker : goal.returns-in-Marker
returns-in-Marker c =
    within (profile_of c.args.protocol) c.args.window.now c.args.at c.requires c.args.table.now c.decoded.new.table (search rules) _ (rw c.in-Marker.is at c.in_ok-answer.ensures) c.in-Marker.n refl
