-- What each refusal means, in words.
use Rattle.std.specs.Prelude.{List, [] as []ᴸ, ◌∷◌ as ◌∷ᴸ◌, ℕ}
use Prim.Native.Char.{code}
use Prim.Native.String.{String, [], ◌∷◌}
use Rattle.refusal.specs.declared.Refusal.{Refusal}

-- a text's bytes
abbrev pub codes : String → List ℕ
codes [] = []ᴸ
codes (c ∷ s) = code c ∷ᴸ codes s

abbrev pub text_of : Refusal → String
text_of Refusal.Type = "type byte unknown to the protocol"
text_of Refusal.Length = "bad length text"
text_of Refusal.Text = "bad Number, Double or Boolean text"
text_of Refusal.Format = "Verbatim shorter than 4 bytes, or its format not txt or mkd"
text_of Refusal.Hello = "bad Hello line"
text_of Refusal.Marker = "streaming marker that is not allowed here"
text_of Refusal.Attribute = "attribute directly after an attribute"
text_of Refusal.Key = "Map or attribute key, or Set member, that is not allowed"
text_of Refusal.Carrier = "attribute on a frame that cannot carry one"
text_of Refusal.Depth = "more than 32 frames one inside another"
text_of Refusal.Rows = "more rows needed than the table has"

abbrev pub words_of : Refusal → List ℕ
words_of r = codes (text_of r)
