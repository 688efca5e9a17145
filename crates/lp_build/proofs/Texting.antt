-- The first text that is refused.
use Rattle.std.proofs.Common.{◌≡◌, ℕ, zero, suc, ◌<◌, List, [], ◌∷◌, ◌++◌, length, take, drop, get_or, refl, sym, ap, subst, inl, inr, arith}
use Rattle.std.specs.Prelude.{◌⊎◌, string_bytes}
use Rattle.lp_lexer.specs.declared.token.Token.{Token}
use Rattle.lp_fixity.specs.Table.{IsCause, entry_of}
use Rattle.lp_fixity.specs.declared.fault.FixFault.{FixFault}
use Rattle.lp_fixity.specs.declared.fault.FixFault.TheVariants as fix
use Rattle.lp_fixity.specs.declared.table.Table.{Table}
use Rattle.lp_syntax.specs.Modules.{IsModuleRefusal}
use Rattle.lp_syntax.specs.Signatures.{IsSignatureRefusal}
use Rattle.lp_syntax.specs.Tokens.{Operators, lexemes, spot_at}
use Rattle.lp_syntax.specs.declared.fault.SyntaxFault.{SyntaxFault}
use Rattle.lp_syntax.specs.declared.fault.SyntaxFault.TheVariants as syntax
use Rattle.lp_syntax.specs.declared.text.FixityLine.{FixityLine}
use Rattle.lp_sig.specs.Pieces.{spelled}
use Rattle.lp_sig.specs.Refusals.{IsAt}
use Rattle.lp_build.specs.Refused.{IsFileFault, IsFirstText, IsLineFault, IsTextRefused, IsUndeclarable, no_module, no_operators, no_signature, of_syntax}
use Rattle.lp_build.specs.Sights.{DeclareAll, InForce, Sees}
use Rattle.lp_build.specs.declared.fault.BuildFault.{BuildFault}
use Rattle.lp_build.specs.declared.fault.BuildFault.TheVariants as fault
use Rattle.lp_build.specs.declared.sources.File.{File}
use Rattle.lp_build.specs.declared.sources.Part.TheVariants as part
use Rattle.lp_build.specs.declared.texts.Texts.{Texts}
use Rattle.lp_build.specs.inner.Linked.{AreTextsSoFar}
use Rattle.lp_build.specs.inner.Refusing.{IsTold}
use Rattle.lp_build.proofs.Seeing.{force_same}

-- one kind of fault for another
pub told_as : (P Q : SyntaxFault → Type 0) (e : BuildFault) → ((f : SyntaxFault) → P f → Q f) → IsTold P e → IsTold Q e
told_as P Q e h (inl m) = inl m
told_as P Q e h (inr (f, p, is)) = inr (f, h f p, is)

-- a sentence
pub line_told : (table : Table) (text word : List ℕ) (line : FixityLine) (c : FixFault) (e : BuildFault) → word ≡ spelled text line.name → IsCause table word (line.fixity, line.number) c →
    e ≡ of_syntax (syntax.Operator c line.name) → IsTold (IsLineFault (entry_of table) text line) e
line_told table text word line (fix.TooHigh n) e w h is =
    inr (syntax.Operator (fix.TooHigh n) line.name, (fix.TooHigh n, h, refl), is)
line_told table text word line fix.Otherwise e w h is =
    inr (syntax.Operator fix.Otherwise line.name, (fix.Otherwise, subst (λ w. IsCause table w (line.fixity, line.number) fix.Otherwise) w h, refl), is)
line_told table text word line fix.Memory e w h is = inl is

-- a file
pub split_at : {A : Type 0} (xs : List A) (i : ℕ) (x : A) → i < length xs → x ≡ get_or xs i x → xs ≡ take i xs ++ x ∷ drop (suc i) xs
split_at [] i x l e = absurd (omega (arith, l))
split_at (y ∷ ys) zero x l e = ap (λ z. z ∷ ys) (sym e)
split_at (y ∷ ys) (suc i) x l e = ap (λ zs. y ∷ zs) (split_at ys i x (omega (arith, l)) e)

pub file_told : (ops now : Operators) (f : File) (i : ℕ) (line : FixityLine) (text : List ℕ) (e : BuildFault) → i < length
    f.text.references.fixities.items → line ≡ get_or f.text.references.fixities.items i line →
    text ≡ f.text.bytes.items → DeclareAll f.text.bytes.items ops (take i f.text.references.fixities.items) now → IsTold (IsLineFault now text line) e → IsTold (IsFileFault ops f) e
file_told ops now f i line text e l at b declared h =
    told_as (IsLineFault now text line) (IsFileFault ops f) e (λ c p. record {
      front = take i f.text.references.fixities.items;
      line = line;
      back = drop (suc i) f.text.references.fixities.items;
      now = now;
      lines = split_at f.text.references.fixities.items i line l at;
      declared = declared;
      refused = subst (λ t. IsLineFault now t line c) b p;
    }) h

-- the files that are seen
pub seen_told : (files : List File) (IsSeen : ℕ → Type 0) (k : ℕ) (f : File) (ops : Operators) (e : BuildFault) → IsAt files k f → IsSeen k → InForce
    files IsSeen k ops → IsTold (IsFileFault ops f) e →
    IsTold (IsUndeclarable files IsSeen) e
seen_told files IsSeen k f ops e at seen force h =
    told_as (IsFileFault ops f) (IsUndeclarable files IsSeen) e (λ c p. record { k = k; file = f; ops = ops; at = at; seen = seen; force = force; refused = p }) h

pub undeclarable_same : {files : List File} {P Q : ℕ → Type 0} {e : BuildFault} → ((k : ℕ) → P k → Q k) → ((k : ℕ) → Q k → P k) → IsTold (IsUndeclarable files P) e → IsTold (IsUndeclarable files Q) e
undeclarable_same {files} {P} {Q} {e} f g h =
    told_as (IsUndeclarable files P) (IsUndeclarable files Q) e (λ c p. record {
      k = p.k;
      file = p.file;
      ops = p.ops;
      at = p.at;
      seen = f p.k p.seen;
      force = force_same f g p.force;
      refused = p.refused;
    }) h

-- one text
pub signature_told : (files : List File) (n k : ℕ) (f : File) (bytes : List ℕ) (tokens : List Token) (c : SyntaxFault) (e : BuildFault) → f.part ≡
    part.Signature → k ≡ n → bytes ≡ f.text.bytes.items → tokens ≡ f.text.tokens.items →
    IsSignatureRefusal (spot_at k bytes tokens) (lexemes bytes tokens) c → e ≡ of_syntax c → IsTold (IsTextRefused files n f) e
signature_told files n k f bytes tokens c e p a b d h is = inr (
  c,
  no_signature p (subst (λ x. IsSignatureRefusal (spot_at x f.text.bytes.items f.text.tokens.items) (lexemes f.text.bytes.items f.text.tokens.items) c) a
      (subst (λ x. IsSignatureRefusal (spot_at k x f.text.tokens.items) (lexemes x f.text.tokens.items) c) b
      (subst (λ x. IsSignatureRefusal (spot_at k bytes x) (lexemes bytes x) c) d h))),
  is,
)

pub operators_told : (files : List File) (n : ℕ) (f : File) (name : List ℕ) (e : BuildFault) → f.part ≡ part.Module → name ≡ string_bytes f.module →
    IsTold (IsUndeclarable files (Sees files n name)) e → IsTold (IsTextRefused files n f) e
operators_told files n f name e p m h =
    told_as (IsUndeclarable files (Sees files n name)) (IsTextRefused files n f) e (λ c u. no_operators p (subst (λ x. IsUndeclarable files (Sees files n x) c) m u)) h

pub module_told : (files : List File) (n k : ℕ) (f : File) (name bytes : List ℕ) (tokens : List Token) (before : Operators) (c : SyntaxFault)
    (e : BuildFault) → f.part ≡ part.Module → k ≡ n → name ≡ string_bytes f.module →
    bytes ≡ f.text.bytes.items → tokens ≡ f.text.tokens.items → InForce files (Sees files n name) (length files) before → IsModuleRefusal (spot_at k bytes tokens) before (lexemes bytes tokens) c →
    e ≡ of_syntax c → IsTold (IsTextRefused files n f) e
module_told files n k f name bytes tokens before c e p a m b d force h is = inr (
  c,
  no_module p before (subst (λ x. InForce files (Sees files n x) (length files) before) m force)
      (subst (λ x. IsModuleRefusal (spot_at x f.text.bytes.items f.text.tokens.items) before (lexemes f.text.bytes.items f.text.tokens.items) c) a
      (subst (λ x. IsModuleRefusal (spot_at k x f.text.tokens.items) before (lexemes x f.text.tokens.items) c) b
      (subst (λ x. IsModuleRefusal (spot_at k bytes x) before (lexemes bytes x) c) d h))),
  is,
)

-- the first one
pub first_text : (files : List File) (n : ℕ) (f : File) (texts : Texts) (e : BuildFault) → AreTextsSoFar files n texts → IsAt files n f → IsTold
    (IsTextRefused files n f) e → (e ≡ fault.Memory) ⊎ IsFirstText files e
first_text files n f texts e so at (inl m) = inl m
first_text files n f texts e so at (inr (c, h, is)) = inr (record {
  n = n;
  file = f;
  signatures = texts.signatures;
  texts = texts.modules;
  cause = c;
  signatures_before = so.signatures;
  modules_before = so.modules;
  at = at;
  refused = h;
  is = is;
})
