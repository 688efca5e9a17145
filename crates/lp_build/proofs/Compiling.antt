-- The names of objects, one after the other.
use Rattle.std.specs.Global.{Global}
use Rattle.std.proofs.Common.{◌≡◌, ℕ, ◌+◌, ◌<◌, ◌≤◌, ◌^◌, List, [], ◌∷◌, ◌++◌, length, get_or, sym, ap, subst, ◌∙◌, arith}
use Rattle.std.specs.Prelude.{Bool, nat_lt, All, Result, Ok, Err, IfOk, OnOk, String, Vec}
use Rattle.std.proofs.lemmas.List.Elements.{All-nil, All-push, All-weaker}
use Rattle.lp_base.specs.declared.limits.TheConstants.{MAX_MODULES}
use Rattle.lp_code.specs.declared.object.Object.{Object}
use Rattle.lp_syntax.specs.declared.text.ModuleText.{ModuleText}
use Rattle.lp_syntax.specs.declared.text.SignatureText.{SignatureText}
use Rattle.lp_module.specs.declared.module.Module.{Module}
use Rattle.lp_build.specs.Limits.{IsWithinObject}
use Rattle.lp_build.specs.Meant.{IsModuleAt}
use Rattle.lp_build.specs.Trees.{AreTexts, no_text, one_text, other_text}
use Rattle.lp_build.specs.inner.Wholes.{IsWhole}
use Rattle.lp_build.specs.declared.build.Whole.{Whole}
use Rattle.lp_build.specs.declared.fault.BuildFault.{BuildFault}
use Rattle.lp_build.specs.declared.sources.File.{File}
use Rattle.lp_build.specs.declared.sources.Part.{Part}
use Rattle.lp_build.specs.declared.sources.Sources.{Sources}
use Rattle.lp_build.specs.declared.texts.Group.{Group}
use Rattle.std.proofs.lemmas.List.{get_or_default, length_push}
use Rattle.lp_sig.specs.Refusals.{IsAt}
use Rattle.lp_module.specs.Sentences.{AreWithin}
use Rattle.lp_build.specs.Compiled.{AreExported, ArePaired, IsCompiled, IsModuleOfFile, IsObjectOf}
use Rattle.lp_build.proofs.Growing.{each_more}

nothing_at : {A : Type 0} (xs : List A) (i : ℕ) (x : A) → xs ≡ [] → IsAt xs i x → ⊥
nothing_at xs i x e at = let l = ap length e in let lt = at.0 in omega (arith, l, lt)

same_at : {A : Type 0} (xs : List A) (n : ℕ) (x y : A) → IsAt xs n x → IsAt xs n y → x ≡ y
same_at xs n x y h k = sym h.1 ∙ get_or_default xs n x y h.0 ∙ k.1

pub paired_none : {A B : Type 0} (P : A → B → Type 0) (xs : List A) (ys : List B) → ys ≡ [] → ArePaired P xs 0 ys
paired_none P xs ys e = record { many = ap length e; each = λ i x y a b. absurd (nothing_at ys i y e b) }

pub paired_more : {A B : Type 0} (P : A → B → Type 0) (xs : List A) (n : ℕ) (old new : List B) (x : A) (y : B) → IsAt xs n x → new ≡ old ++ y ∷ [] → P
    x y → ArePaired P xs n old → ArePaired P xs (n + 1) new
paired_more {A} {B} P xs n old new x y at e p h = record {
  many = let l = ap length e ∙ length_push old y in let m = h.many in omega (arith, l, m);
  each = λ i z w a b. each_more (λ k v. (u : A) → IsAt xs k u → P u v) old y (λ k v c u d. h.each k u v d c)
      (λ u d. subst (λ q. P q y) (same_at xs n x u at (subst (λ k. IsAt xs k u) h.many d)) p) i w (subst (λ l. IsAt l i w) e b) z a;
}

pub paired_weaker : {A B : Type 0} (P Q : A → B → Type 0) (xs : List A) (n : ℕ) (ys : List B) → ((x : A) (y : B) → P x y → Q x y) → ArePaired P xs n ys → ArePaired Q xs n ys
paired_weaker P Q xs n ys f h = record { many = h.many; each = λ i x y a b. f x y (h.each i x y a b) }

pub exported_none : {A : Type 0} (is : A → Bool) (count : ℕ) (xs : List A) → xs ≡ [] → AreExported is count xs
exported_none is count xs e = λ i x at. absurd (nothing_at xs i x e at)

pub exported_more : {A : Type 0} (is : A → Bool) (count n : ℕ) (old new : List A) (x : A) → length old ≡ n → new ≡ old ++ x ∷ [] → is x ≡ nat_lt n
    count → AreExported is count old → AreExported is count new
exported_more is count n old new x l e p h = λ i y at.
    each_more (λ k v. is v ≡ nat_lt k count) old x h (p ∙ ap (λ k. nat_lt k count) (sym l)) i y (subst (λ z. IsAt z i y) e at)

-- the numbers of texts are those of files
numbers_below : {T : Type 0} {p : Part} {IsTree : ℕ → File → T → Type 0} {files : List File} {n : ℕ} {numbers : List ℕ} {names : List (String Global)}
    {sources : List (Vec ℕ Global)} {trees : List T} →
    AreTexts p IsTree files n numbers names sources trees → All (λ k. k < n) numbers
numbers_below no_text = All-nil (λ k. k < 0)
numbers_below (other_text n m f numbers names sources trees before at other next) = All-weaker (λ k. k < n) (λ k. k < m) (λ k l. omega (arith, l, next)) numbers (numbers_below before)
numbers_below (one_text n m f name source tree numbers all_numbers names all_names sources all_sources trees all_trees before at is named bytes h next e e2 e3 e4) =
    subst (All (λ k. k < m)) (sym e) (All-push (λ k. k < m) numbers n (All-weaker (λ k. k < n) (λ k. k < m) (λ k l. omega (arith, l, next)) numbers (numbers_below before)) (omega (arith, next)))

-- they have 32 bits
pub small_numbers : (files : List File) (w : Whole) → length files ≤ MAX_MODULES → IsWhole files w → All (λ k. k < 2 ^ 32) w.texts.modules.numbers.items
small_numbers files w few h =
    All-weaker (λ k. k < length files) (λ k. k < 2 ^ 32) (λ k l. small k (length files) l few) w.texts.modules.numbers.items (numbers_below h.texts.modules)
  where
    small : (k n : ℕ) → k < n → n ≤ MAX_MODULES → k < 2 ^ 32
    small k n l m = let c : MAX_MODULES ≤ 2 ^ 32 = omega arith in omega (arith, l, m, c)

pub found_number : (numbers : List ℕ) (place number other read wanted : ℕ) → place < length numbers → number ≡ get_or numbers place other → (number < 2 ^ 32 → read ≡ number)
    → read ≡ wanted → All (λ n. n < 2 ^ 32) numbers → IsAt numbers place wanted
found_number numbers place number other read wanted lt is same e all =
    let small : number < 2 ^ 32 = subst (λ n. n < 2 ^ 32) (sym is) (all place other lt) in
    let h : number ≡ wanted = sym (same small) ∙ e in
    subst (IsAt numbers place) h (lt, get_or_default numbers place number other lt ∙ sym is)

pub compiled_is : (sources : Sources) (w : Whole) (number : ℕ) (m : Module) (r : Result Object BuildFault) → IsWhole sources.files.items w
    → IsModuleOfFile sources.files.items w.texts.signatures w.texts.modules number m → (AreWithin m.bank m.clauses.items → IfOk r (IsObjectOf m)) → (AreWithin m.bank m.clauses.items → OnOk r (IsWithinObject m))
    → IfOk r (IsCompiled sources number)
compiled_is sources w number m r whole is object within = by r (object is.is.meaning.clauses) (within is.is.meaning.clauses)
  where
    by : (r : Result Object BuildFault) → IfOk r (IsObjectOf m) → OnOk r (IsWithinObject m) → IfOk r (IsCompiled sources number)
    by (Ok o) h few = record {
      signatures = w.texts.signatures;
      texts = w.texts.modules;
      signature_texts = whole.texts.signatures;
      module_texts = whole.texts.modules;
      meant = m;
      is = is;
      object = h;
      within = few;
    }
    by (Err e) h few = tt

pub module_of_file : (files : List File) (g : Group SignatureText) (t : Group ModuleText) (number place : ℕ) (r : Result Module BuildFault) → IsAt t.numbers.items place number
    → IfOk r (IsModuleAt files g t place) → IfOk r (IsModuleOfFile files g t number)
module_of_file files g t number place (Ok m) at h = record { place = place; there = at; is = h }
module_of_file files g t number place (Err e) at h = tt
