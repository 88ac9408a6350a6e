-- What a refusal means is what its number means, and short.
use Rattle.std.specs.Prelude.{◌≡◌, refl, ◌≤◌, length}
use Rattle.std.proofs.Common.{arith}
use Rattle.refusal.specs.declared.Refusal.{Refusal}
use Rattle.refusal.specs.Numbers.{number_of}
use Rattle.wording.specs.Words.{reason_of, reason_at}

pub reason-number : (r : Refusal) → reason_of r ≡ reason_at (number_of r)
reason-number Refusal.Type = refl
reason-number Refusal.Length = refl
reason-number Refusal.Text = refl
reason-number Refusal.Format = refl
reason-number Refusal.Hello = refl
reason-number Refusal.Marker = refl
reason-number Refusal.Attribute = refl
reason-number Refusal.Key = refl
reason-number Refusal.Carrier = refl
reason-number Refusal.Depth = refl
reason-number Refusal.Rows = refl

pub reason-short : (r : Refusal) → length (reason_of r) ≤ 64
reason-short Refusal.Type = omega arith
reason-short Refusal.Length = omega arith
reason-short Refusal.Text = omega arith
reason-short Refusal.Format = omega arith
reason-short Refusal.Hello = omega arith
reason-short Refusal.Marker = omega arith
reason-short Refusal.Attribute = omega arith
reason-short Refusal.Key = omega arith
reason-short Refusal.Carrier = omega arith
reason-short Refusal.Depth = omega arith
reason-short Refusal.Rows = omega arith
