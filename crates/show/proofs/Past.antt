-- A text that goes past an empty buffer stands behind all that the stream and the buffer held.
use Rattle.std.proofs.Common.{◌≡◌, ℕ, List, [], Result, Ok, Err, OnOk, sym, subst, append-nil}
use Rattle.std.specs.declared.option.Option.{Option}
use Rattle.std.specs.Io.KnownBytes.{Keeps, Appends, WriteAppends, append_known}
use Rattle.std.proofs.KnownBytes.{Keeps-trans, append_known-kept, append_known-passed}

past : (a b c : Option (List ℕ)) (buffer text : List ℕ) → Keeps a (append_known b buffer) → buffer ≡ [] → Appends b c text → Appends a (append_known c buffer) text
past a b c buffer text kept empty added = subst (Appends a _) (append-nil text) (append_known-passed a b c buffer buffer text [] kept empty added (sym (append-nil buffer)))

pub past_all : {T E : Type 0} (r : Result T E) (a b c : Option (List ℕ)) (buffer text : List ℕ) → Keeps a (append_known b buffer) → buffer ≡ [] → OnOk r (Appends b c text)
    → OnOk r (Appends a (append_known c buffer) text)
past_all (Ok x) a b c buffer text kept empty added = past a b c buffer text kept empty added
past_all (Err e) a b c buffer text kept empty added = tt

pub past_some : {E : Type 0} (r : Result ℕ E) (a b c : Option (List ℕ)) (buffer text : List ℕ) → Keeps a (append_known b buffer) → buffer ≡ [] → WriteAppends b c r text
    → WriteAppends a (append_known c buffer) r text
past_some (Ok n) a b c buffer text kept empty added = past a b c buffer _ kept empty added
past_some (Err e) a b c buffer text kept empty same = Keeps-trans a _ _ kept (append_known-kept b c buffer same)
