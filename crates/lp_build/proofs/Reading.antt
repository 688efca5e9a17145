-- One more file that was read.
use Rattle.std.proofs.Common.{◌≡◌, ℕ, ◌<◌, List, [], ◌∷◌, ◌++◌, length, ap, subst, ◌∙◌, arith}
use Rattle.std.specs.Prelude.{string_bytes}
use Rattle.std.proofs.lemmas.List.{length_push}
use Rattle.lp_base.specs.declared.limits.TheConstants.{MAX_MODULES}
use Rattle.lp_lexer.specs.Lexis.{HasTokens}
use Rattle.lp_lexer.specs.declared.token.Token.{Token}
use Rattle.lp_syntax.specs.References.{AreReferences}
use Rattle.lp_syntax.specs.Tokens.{lexemes, spot_at}
use Rattle.lp_sig.specs.Refusals.{IsAt}
use Rattle.lp_build.specs.Loads.{ending}
use Rattle.lp_build.specs.Reads.{AreRead, IsReadFile, IsReadText}
use Rattle.lp_build.specs.declared.sources.File.{File}
use Rattle.lp_build.specs.declared.sources.Sources.{Sources}
use Rattle.lp_build.specs.declared.sources.Text.{Text}
use Rattle.lp_build.proofs.Growing.{each_more}

nothing_at : (n : ℕ) (f : File) → IsAt [] n f → ⊥
nothing_at n f at = let lt = at.0 in omega (arith, lt)

pub none_read : (sources : Sources) → sources.files.items ≡ [] → AreRead sources
none_read sources e = record {
  few = let n = ap length e in omega (arith, n);
  each = λ n f at. absurd (nothing_at n f (subst (λ l. IsAt l n f) e at));
}

pub one_read : (old new : Sources) (n : ℕ) (f : File) → n ≡ length old.files.items → n < MAX_MODULES → new.files.items ≡ old.files.items ++ f ∷ [] →
    string_bytes f.name ≡ string_bytes f.module ++ ending f.part → IsReadText n f.text → AreRead old → AreRead new
one_read old new n f at few e name text h = record {
  few = let l = ap length e ∙ length_push old.files.items f in omega (arith, l, at, few);
  each = λ k g there. each_more IsReadFile old.files.items f h.each (record { name = name; text = subst (λ x. IsReadText x f.text) at text }) k g (subst (λ l. IsAt l k g) e there);
}

-- a text with its tokens, and with what it says of other files
pub text_read : (number : ℕ) (text : Text) (bytes : List ℕ) (tokens : List Token) → bytes ≡ text.bytes.items → tokens ≡ text.tokens.items → HasTokens
    bytes text.tokens.items → AreReferences (spot_at number bytes tokens) (lexemes bytes tokens) (length tokens) text.references → IsReadText number
    text
text_read number text bytes tokens b t has refer = record {
  tokens = subst (λ x. HasTokens x text.tokens.items) b has;
  references = subst (λ x. AreReferences (spot_at number x text.tokens.items) (lexemes x text.tokens.items) (length text.tokens.items) text.references) b
      (subst (λ x. AreReferences (spot_at number bytes x) (lexemes bytes x) (length x) text.references) t refer);
}
