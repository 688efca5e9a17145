-- One more text, signature or module behind those so far.
use Rattle.std.proofs.Common.{◌≡◌, ℕ, zero, suc, ◌+◌, ◌<◌, ◌≤◌, List, [], ◌∷◌, ◌++◌, length, map, take, get_or, Option, Some, None, Bool, true, false, refl, sym, ap, subst, ◌∙◌, arith, append_assoc}
use Rattle.std.specs.Global.{Global}
use Rattle.std.specs.Borrow.{Bor}
use Rattle.std.specs.Prelude.{String, Vec, Result, Ok, Err, IfOk, IfSome, string_bytes, nat_eq, if◌then◌else◌}
use Rattle.std.proofs.lemmas.Bool.{eqb-true}
use Rattle.std.proofs.lemmas.List.{length_push}
use Rattle.indexmap.specs.IndexMap.{get}
use Rattle.lp_syntax.specs.declared.text.ModuleText.{ModuleText}
use Rattle.lp_syntax.specs.declared.text.SignatureText.{SignatureText}
use Rattle.lp_lexer.specs.declared.token.Token.{Token}
use Rattle.lp_syntax.specs.Tokens.{Operators, lexemes, spot_at}
use Rattle.lp_syntax.specs.Signatures.{IsSignatureText}
use Rattle.lp_syntax.specs.Modules.{IsModuleText}
use Rattle.lp_sig.specs.Refusals.{IsAt, IsAccepted}
use Rattle.lp_sig.specs.Rows.{kind_row, fixity_row}
use Rattle.lp_sig.specs.declared.signature.Signature.{Signature}
use Rattle.lp_module.specs.declared.module.Module.{Module}
use Rattle.lp_build.specs.Meant.{AreModulesAt, one_module, IsModuleAt, AreSignaturesOf, one_signature, IsSignatureOf, IsDeclaredAt, IsOwnSignature, AreModules, AreModulesOf}
use Rattle.lp_build.specs.Sights.{InForce, Sees, signature_of}
use Rattle.lp_build.specs.Trees.{IsSignatureTree, IsModuleTree, AreTexts, no_text, one_text, other_text, AreSignatureTexts, AreModuleTexts}
use Rattle.lp_build.specs.inner.Linked.{AreDeclared, AreMade, AreTextsSoFar, IsOneMore}
use Rattle.lp_build.specs.declared.sources.File.{File}
use Rattle.lp_build.specs.declared.sources.Part.{Part}
use Rattle.lp_build.specs.declared.sources.Part.TheVariants as part
use Rattle.lp_build.specs.declared.texts.Group.{Group}
use Rattle.lp_build.specs.declared.texts.Texts.{Texts}
use Rattle.lp_build.specs.declared.fault.BuildFault.{BuildFault}
use Rattle.lp_build.specs.declared.signatures.Signatures.{Signatures}
use Rattle.lp_build.specs.declared.sources.Sources.{Sources}
use Rattle.lp_build.proofs.Signing.{first_ones}

not_both : (p : Part) → p ≡ part.Signature → p ≡ part.Module → ⊥
not_both p a b = absurd (cc)

pub signature_text_more : (files : List File) (n : ℕ) (f : File) (tree : SignatureText) (old new : Texts) → AreTextsSoFar files n old → IsAt files n f
    → f.part ≡ part.Signature → IsSignatureTree n f tree →
    IsOneMore n f tree old.signatures new.signatures → new.modules ≡ old.modules → AreTextsSoFar files (n + 1) new
signature_text_more files n f tree old new so at p is more same = record {
  signatures = one_text n (n + 1) f more.name more.source tree _ _ _ _ _ _ _ _ so.signatures at p more.named more.bytes is refl more.numbers more.names more.sources more.texts;
  modules = subst (λ g. AreModuleTexts files (n + 1) g) (sym same) (other_text n (n + 1) f _ _ _ _ so.modules at (λ q. not_both f.part p q) refl);
}

pub module_text_more : (files : List File) (n : ℕ) (f : File) (tree : ModuleText) (old new : Texts) → AreTextsSoFar files n old → IsAt files n f → f.part ≡ part.Module → IsModuleTree files n f tree →
    IsOneMore n f tree old.modules new.modules → new.signatures ≡ old.signatures → AreTextsSoFar files (n + 1) new
module_text_more files n f tree old new so at p is more same = record {
  signatures = subst (λ g. AreSignatureTexts files (n + 1) g) (sym same) (other_text n (n + 1) f _ _ _ _ so.signatures at (λ q. not_both f.part q p) refl);
  modules = one_text n (n + 1) f more.name more.source tree _ _ _ _ _ _ _ _ so.modules at p more.named more.bytes is refl more.numbers more.names more.sources more.texts;
}

-- there are no more texts of a part than files
pub few_texts : {T : Type 0} {p : Part} {IsTree : ℕ → File → T → Type 0} {files : List File} {n : ℕ} {numbers : List ℕ} {names : List (String Global)}
    {sources : List (Vec ℕ Global)} {trees : List T} →
    AreTexts p IsTree files n numbers names sources trees → length trees ≤ n
few_texts no_text = omega arith
few_texts (other_text n m f numbers names sources trees before at other next) = let h = few_texts before in omega (arith, h, next)
few_texts (one_text n m f name source tree numbers all_numbers names all_names sources all_sources trees all_trees before at same named bytes is next ns ms ss ts) =
    let h = few_texts before in
    let l : length all_trees ≡ length trees + 1 = ap length ts ∙ length_push trees tree in
    omega (arith, h, l, next)

-- one more signature
pub signature_behind : (g : Group SignatureText) (ns : List ℕ) (ss : List Signature) (n : ℕ) (all : List ℕ) (s : Signature) (new : List Signature) →
    AreSignaturesOf g ns ss → IsSignatureOf g n s → all ≡ ns ++ n ∷ [] → new ≡ ss ++ s ∷ [] → AreSignaturesOf g all new
signature_behind g ns ss n all s new h is e so = one_signature ns all ss new n s h is e so

-- one more module
pub module_behind : (files : List File) (g : Group SignatureText) (t : Group ModuleText) (order : List ℕ) (i p : ℕ) (m : Module)
    (old new : List Module) → i < length order → p ≡ get_or order i p → AreModulesAt files g t (take i order) old → IsModuleAt files g t p m → new ≡
    old ++ m ∷ [] → AreModulesAt files g t (take (i + 1) order) new
module_behind files g t order i p m old new lt at h is e = one_module (take i order) (take (i + 1) order) old new p m h is (sym (first_ones order i p lt at)) e

-- no text yet
pub empty_texts : {T : Type 0} (p : Part) (IsTree : ℕ → File → T → Type 0) (files : List File) (numbers : List ℕ) (names : List (String Global)) (sources : List (Vec ℕ Global)) (trees : List T) →
    numbers ≡ [] → names ≡ [] → sources ≡ [] → trees ≡ [] → AreTexts p IsTree files 0 numbers names sources trees
empty_texts p IsTree files numbers names sources trees a b c d =
    subst (λ x. AreTexts p IsTree files 0 x names sources trees) (sym a)
    (subst (λ x. AreTexts p IsTree files 0 [] x sources trees) (sym b)
    (subst (λ x. AreTexts p IsTree files 0 [] [] x trees) (sym c)
    (subst (λ x. AreTexts p IsTree files 0 [] [] [] x) (sym d) no_text)))

-- a tree of the bytes and tokens of a file
pub signature_tree : (n k : ℕ) (f : File) (bytes : List ℕ) (tokens : List Token) (t : SignatureText) → k ≡ n → bytes ≡ f.text.bytes.items → tokens ≡
    f.text.tokens.items → IsSignatureText (spot_at k bytes tokens) (lexemes bytes tokens) t → IsSignatureTree n f t
signature_tree n k f bytes tokens t a b c h =
    subst (λ x. IsSignatureText (spot_at x f.text.bytes.items f.text.tokens.items) (lexemes f.text.bytes.items f.text.tokens.items) t) a
    (subst (λ x. IsSignatureText (spot_at k x f.text.tokens.items) (lexemes x f.text.tokens.items) t) b
    (subst (λ x. IsSignatureText (spot_at k bytes x) (lexemes bytes x) t) c h))

pub module_tree : (files : List File) (n k : ℕ) (f : File) (name bytes : List ℕ) (tokens : List Token) (before after : Operators) (t : ModuleText) → k
    ≡ n → name ≡ string_bytes f.module → bytes ≡ f.text.bytes.items → tokens ≡ f.text.tokens.items →
    InForce files (Sees files n name) (length files) before → IsModuleText (spot_at k bytes tokens) before after (lexemes bytes tokens) t → IsModuleTree files n f t
module_tree files n k f name bytes tokens before after t a m b c force h = record {
  before = before;
  after = after;
  force = subst (λ x. InForce files (Sees files n x) (length files) before) m force;
  tree = subst (λ x. IsModuleText (spot_at x f.text.bytes.items f.text.tokens.items) before after (lexemes f.text.bytes.items f.text.tokens.items) t) a
      (subst (λ x. IsModuleText (spot_at k x f.text.tokens.items) before after (lexemes x f.text.tokens.items) t) b
      (subst (λ x. IsModuleText (spot_at k bytes x) before after (lexemes bytes x) t) c h));
}

-- what holds of each element holds of each with one more behind them
pub each_more : {X : Type 0} (P : ℕ → X → Type 0) (xs : List X) (x : X) → ((n : ℕ) (y : X) → IsAt xs n y → P n y) → P (length xs) x → (n : ℕ) (y : X) → IsAt (xs ++ x ∷ []) n y → P n y
each_more P [] x h p zero y at = subst (λ z. P 0 z) at.1 p
each_more P [] x h p (suc n) y at = let lt = at.0 in absurd (omega (arith, lt))
each_more P (z ∷ xs) x h p zero y at = let lt : 0 < suc (length xs) = omega arith in h 0 y (lt, at.1)
each_more P (z ∷ xs) x h p (suc n) y at =
    let lt = at.0 in
    each_more (λ k w. P (suc k) w) xs x (λ k w a. let below = a.0 in h (suc k) w (omega (arith, below), a.1)) p n y (omega (arith, lt), at.1)

pub made_none : (g : Group SignatureText) (made : List Signature) → made ≡ [] → AreMade g made 0
made_none g made e = record { count = ap length e; each = λ place s at. absurd (nothing_at place s (subst (λ l. IsAt l place s) e at)) }
  where
    nothing_at : (place : ℕ) (s : Signature) → IsAt [] place s → ⊥
    nothing_at place s at = let lt = at.0 in omega (arith, lt)

pub made_more : (g : Group SignatureText) (old new : List Signature) (root : ℕ) (s : Signature) → AreMade g old root → new ≡ old ++ s ∷ [] → IsDeclaredAt g root s → AreMade g new (root + 1)
made_more g old new root s h e is = record {
  count = let n = ap length e ∙ length_push old s in let m = h.count in omega (arith, n, m);
  each = λ place x at. each_more (λ n y. IsDeclaredAt g n y) old s h.each (subst (λ n. IsDeclaredAt g n s) (sym h.count) is) place x (subst (λ l. IsAt l place x) e at);
}

pub declared_at : (g : Group SignatureText) (place k : ℕ) (s : Signature) (names : List (String Global)) (sources : List (Vec ℕ Global))
    (texts : List SignatureText) → k ≡ place → names ≡ g.names.items → sources ≡ g.sources.items → texts ≡ g.texts.items →
    IsAccepted names sources texts k (map kind_row s.kinds.items) (map fixity_row s.fixities.items) s.bank s.abbreviations.items s.constants.items → IsDeclaredAt g place s
declared_at g place k s names sources texts p a b c h =
    subst (λ x. IsAccepted g.names.items g.sources.items g.texts.items x (map kind_row s.kinds.items) (map fixity_row s.fixities.items) s.bank s.abbreviations.items s.constants.items) p
    (subst (λ x. IsAccepted x g.sources.items g.texts.items k (map kind_row s.kinds.items) (map fixity_row s.fixities.items) s.bank s.abbreviations.items s.constants.items) a
    (subst (λ x. IsAccepted names x g.texts.items k (map kind_row s.kinds.items) (map fixity_row s.fixities.items) s.bank s.abbreviations.items s.constants.items) b
    (subst (λ x. IsAccepted names sources x k (map kind_row s.kinds.items) (map fixity_row s.fixities.items) s.bank s.abbreviations.items s.constants.items) c h)))

-- a result that is given
pub ok_at : {T E : Type 0} (r : Result T E) (P : T → Type 0) (x : T) → r ≡ Ok x → IfOk r P → P x
ok_at r P x e h = subst (λ q. IfOk q P) e h

-- one more place
pub place_more : (numbers : List ℕ) (number place : ℕ) (new old : ℕ → Option ℕ) → place < length numbers → number ≡ get_or numbers place number →
    ((n : ℕ) → new n ≡ (if nat_eq number n then Some place else old n)) → ((n p : ℕ) → old n ≡ Some p → IsAt numbers p n) →
    (n p : ℕ) → new n ≡ Some p → IsAt numbers p n
place_more numbers number place new old lt at e h n p is = by (nat_eq number n) refl (sym (e n) ∙ is)
  where
    by : (t : Bool) → nat_eq number n ≡ t → (if t then Some place else old n) ≡ Some p → IsAt numbers p n
    by true same found =
        let q : place ≡ p = cc in
        let m : number ≡ n = eqb-true number n same in
        subst (λ x. IsAt numbers x n) q (subst (λ x. IsAt numbers place x) m (lt, sym at))
    by false other found = h n p found

-- one more signature of these numbers
pub signature_next : (g : Group SignatureText) (ns numbers : List ℕ) (i n : ℕ) (s : Signature) (old new : List Signature) → i < length numbers → n ≡
    get_or numbers i n → AreSignaturesOf g (ns ++ take i numbers) old → IsSignatureOf g n s → new ≡ old ++ s ∷ [] → AreSignaturesOf g
    (ns ++ take (i + 1) numbers) new
signature_next g ns numbers i n s old new lt at h is e =
    one_signature (ns ++ take i numbers) (ns ++ take (i + 1) numbers) old new n s h is (ap (λ l. ns ++ l) (sym (first_ones numbers i n lt at)) ∙ sym (append_assoc ns (take i numbers) (n ∷ []))) e

-- what the modules of all texts mean
pub modules_are : (sources : Sources) (texts : Texts) (r : Result (Vec Module Global) BuildFault) → AreTextsSoFar sources.files.items
    (length sources.files.items) texts → IfOk r (λ modules. AreModulesOf sources.files.items texts.signatures texts.modules modules.items) →
    IfOk r (λ modules. AreModules sources modules.items)
modules_are sources texts (Ok modules) so h = record { signatures = texts.signatures; texts = texts.modules; signature_texts = so.signatures; module_texts = so.modules; meanings = h }
modules_are sources texts (Err e) so h = tt

-- a signature that is found is a module's own
pub own_signature : (files : List File) (g : Group SignatureText) (name : List ℕ) (number : ℕ) (r : Option (Bor Signature)) → signature_of files name
    ≡ Some number → IfSome r (λ s. IsSignatureOf g number s.now) → IfSome r (λ s. IsOwnSignature files g name s.now)
own_signature files g name number None e h = tt
own_signature files g name number (Some s) e h = record { number = number; first = e; is = h }

-- what stands at the place of a number is the signature of the file
pub found_signature : (g : Group SignatureText) (signatures : Signatures) (number place : ℕ) (r : Option (Bor Signature)) → AreDeclared g signatures →
    get nat_eq signatures.places number ≡ Some place → IfSome r (λ x. IsAt signatures.made.items place x.now) → IfSome r
    (λ s. IsSignatureOf g number s.now)
found_signature g signatures number place None h e at = tt
found_signature g signatures number place (Some s) h e at = record { place = place; there = h.places number place e; declared = h.each place s.now at }
