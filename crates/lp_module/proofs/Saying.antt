-- Numbers in a row, and which refusals are of the module.
use Rattle.std.proofs.Common.{◌≡◌, ℕ, zero, suc, ◌+◌, List, [], ◌∷◌, ◌++◌, sym, ap, ◌∙◌, arith, inl, inr}
use Rattle.std.specs.Prelude.{◌⊎◌}
use Rattle.std.specs.List.{range_with_len}
use Rattle.lp_syntax.specs.declared.text.Sentence.{Sentence}
use Rattle.lp_sig.specs.AsWritten.{DeclaresTypes}
use Rattle.lp_sig.specs.Modules.{HasSeen}
use Rattle.lp_sig.specs.Named.{SeesTheirs}
use Rattle.lp_sig.specs.declared.signature.Signature.{Signature}
use Rattle.lp_term.specs.Nodes.{Nodes}
use Rattle.lp_module.specs.Refusals.{IsUntyped, IsWrongInside}
use Rattle.lp_module.specs.Schemes.{declared_schemes}
use Rattle.lp_module.specs.Sentences.{said}
use Rattle.lp_module.specs.declared.fault.ModuleFault.{ModuleFault}
use Rattle.lp_module.specs.declared.fault.ModuleFault.TheVariants as fault
use Rattle.lp_module.specs.declared.sentences.TypedSentence.{TypedSentence}
use Rattle.lp_module.specs.inner.Typed.{AreSentences, IsFirstUnformed}
use Rattle.lp_module.proofs.Typed.{unformed}

-- one more number
range_last : (a n : ℕ) → range_with_len a (suc n) ≡ range_with_len a n ++ (a + n) ∷ []
range_last a zero = let z : a ≡ a + 0 = omega arith in ap (λ x. x ∷ []) z
range_last a (suc n) =
    let z : (a + 1) + n ≡ a + suc n = omega arith in
    ap (λ l. a ∷ l) (range_last (a + 1) n ∙ ap (λ x. range_with_len (a + 1) n ++ x ∷ []) z)

pub range_more : (a n : ℕ) (numbers numbers_then : List ℕ) (last : ℕ) → numbers ≡ range_with_len a n → numbers_then ≡ numbers ++ last ∷ [] → last ≡ a + n → numbers_then ≡ range_with_len a (n + 1)
range_more a n numbers numbers_then last same pushed is =
    let z : suc n ≡ n + 1 = omega arith in
    pushed ∙ ap (λ l. l ++ last ∷ []) same ∙ ap (λ x. range_with_len a n ++ x ∷ []) is ∙ sym (range_last a n) ∙ ap (range_with_len a) z

-- a refusal of typing or of form, as one of the module
pub untyped_inside : (own : Signature) (used : List Signature) (text : List ℕ) (lines : List Sentence) (names : Signature) (e : ModuleFault) → HasSeen
    own used text lines names → SeesTheirs own used text lines names → DeclaresTypes own used text lines names →
    (e ≡ fault.Memory) ⊎ IsUntyped names text lines e → IsWrongInside own used text lines e
untyped_inside own used text lines names e seen theirs declared (inl is) = inl is
untyped_inside own used text lines names e seen theirs declared (inr u) = inr (inr (names, seen, theirs, declared, inl u))

pub unformed_inside : (own : Signature) (used : List Signature) (text : List ℕ) (lines : List Sentence) (names : Signature) (b : Nodes)
    (ss : List TypedSentence) (e : ModuleFault) → HasSeen own used text lines names → SeesTheirs own used text lines names → DeclaresTypes own used text lines names →
    AreSentences names text b (said lines) ss → (e ≡ fault.Memory) ⊎ IsFirstUnformed (declared_schemes names) b ss e → IsWrongInside own used text lines e
unformed_inside own used text lines names b ss e seen theirs declared a (inl is) = inl is
unformed_inside own used text lines names b ss e seen theirs declared a (inr u) = inr (inr (names, seen, theirs, declared, inr (unformed names text b lines ss e a u)))
