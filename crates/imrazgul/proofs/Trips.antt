-- The round trips of the exported calls (RULES 5.6), in the numbers that they tell: decode, then encode. Proved of the definitions in `meaning` `TripLaws`.
use Rattle.std.specs.Prelude.{◌≡◌, List, ◌++◌, Bool, true, ℕ, ◌+◌, ◌*◌, ◌≤◌}
use Rattle.std.proofs.Common.{sym, subst, ◌∙◌, arith}
use Rattle.std.proofs.Math.Path.{ap}
use Rattle.std.proofs.Math.Bool.{false}
use Rattle.std.proofs.Math.ListN.{length, take, drop}
use Rattle.std.proofs.lemmas.List.Edits.{sets}
use Rattle.std.proofs.Math.Seq.{sets-eq, length-sets, length-take-le, take-append_seam}
use borrow.Author.Tests.{le-leb, le-ltb}
use Rattle.meaning.specs.Kinds.{resp2}
use Rattle.meaning.specs.Rows.{Forest, span, words, row_width, rows_in}
use Rattle.meaning.specs.RowsLaws.{length-words}
use Rattle.meaning.specs.Frames.{depth_limit}
use Rattle.meaning.specs.Decode.{frame}
use Rattle.meaning.specs.DecodeLaws.{OfFrame, InBounds, frame-within}
use Rattle.meaning.specs.Encode.{present, source_limit, able, encoding, written, within, encode}
use Rattle.meaning.specs.Trips.{spelled}
use Rattle.meaning.proofs.TripLaws as Trip
use Rattle.answers.specs.Answers.{table_after, meant}
use Rattle.encoder.specs.Encodes as Encodes
use Rattle.encoder.specs.Encodes.{output_after}
use Rattle.encoder.specs.declared.error.Told.{Told as Numbers}
use Rattle.imrazgul.specs.Calls.{DecodeCall, EncodeCall, length_told}
use Rattle.imrazgul.specs.Trips.{FrameOf, frame_told, bytes_told, of-frame}

-- ---- decode, then encode: a decode told a frame of n bytes and u rows ..

module _ (s t₀ t₁ : List ℕ) (n u : ℕ) (w : DecodeCall resp2 s 0 t₀ t₁ (frame_told n u)) where
  -- the words that it wrote
  record Wrote : Type 0 where
    ws : List ℕ
    gave : meant resp2 depth_limit s 0 t₀ ≡ frame n u ws
    inside : n ≤ length s
    size : length ws ≡ row_width * u
    room : u ≤ rows_in (length t₁)
    front : take (length ws) t₁ ≡ ws

  wrote : Wrote
  wrote =
      let x = of-frame (meant resp2 depth_limit s 0 t₀) n u w.says in
      let ws : List ℕ = x.0 in
      let b = subst (OfFrame (InBounds s 0 (rows_in (length t₀)))) x.1 (frame-within resp2 depth_limit (rows_in (length t₀)) s 0 (omega arith)) in
      let is : t₁ ≡ sets t₀ 0 ws = w.leaves ∙ ap (table_after t₀) x.1 in
      let long : length t₁ ≡ length t₀ = ap length is ∙ length-sets t₀ 0 ws in
      record {
        ws = ws;
        gave = x.1;
        inside = omega (arith, b.0);
        size = b.2;
        room = rw long b.1;
        front = ap (take (length ws)) (is ∙ sets-eq ws t₀ 0 (omega (arith, b.1, b.2))) ∙ take-append_seam ws (drop (0 + length ws) t₀);
      }

  -- The table has a frame, of those rows ..
  pub decode-frame : (f : Forest) × FrameOf s t₁ f × (span f ≡ u) × (take (row_width * u) t₁ ≡ words f)
  decode-frame =
      let x = wrote in
      let y = Trip.decode-encodable (rows_in (length t₀)) s t₁ 0 n u x.ws x.gave x.room x.front in (
        y.0,
        (drop (length x.ws) (present t₁), y.2),
        omega (arith, length-words y.0, ap length y.1, x.size),
        ap (λ (k : ℕ). take k t₁) (sym x.size) ∙ x.front ∙ sym y.1,
      )

  -- .. and is encodable, with either flag.
  pub decode-encodable : length s ≤ source_limit → (flag : Bool) → (length_told s t₁ flag).refusal ≡ 0
  unfolding encoding
  decode-encodable small flag = rw (decode-frame.1.1, le-ltb source_limit (length s) small)

  -- .. and an encode had the same source, the table that was left, the flag clear, and an output of n bytes or more

  module _ (f : Forest) (of : FrameOf s t₁ f) (out₀ out₁ : List ℕ) (room : n ≤ length out₀) (q : Numbers) (e : EncodeCall s t₁ false out₀ out₁ q) where
    -- It writes the n bytes that were read, if they are spelled as it spells.
    pub decode-encode : length s ≤ source_limit → spelled s 0 f ≡ true → (q ≡ bytes_told n) × (out₁ ≡ take n s ++ drop n out₀)
    unfolding encode
    decode-encode small sp =
        let x = wrote in
        let bytes : encoding resp2 s t₁ false ≡ able (take n s) = Trip.decode-encode (rows_in (length t₀)) s t₁ 0 n u x.ws x.gave x.room x.front small f of.0 of.1 sp in
        let size : length (take n s) ≡ n = length-take-le n s x.inside in
        let past : 0 + length (take n s) ≡ n = omega (arith, size) in
        let is : encode resp2 s t₁ false (length out₀) ≡ written (take n s) = ap (within (length out₀)) bytes ∙ rw (le-leb (length (take n s)) (length out₀) (omega arith)) in (
          e.says ∙ ap Encodes.told_of is ∙ ap bytes_told size,
          e.leaves ∙ ap (output_after out₀) is ∙ sets-eq (take n s) out₀ 0 (omega arith) ∙ ap (λ (k : ℕ). take n s ++ drop k out₀) past,
        )
