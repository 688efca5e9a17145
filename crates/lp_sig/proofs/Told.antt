-- What the sights of signatures tell of the words of a text.
use Rattle.std.proofs.Common.{◌≡◌, ℕ, zero, suc, ◌+◌, ◌<◌, ◌≤◌, List, Bool, [], ◌∷◌, ◌++◌, length, get_or, take, Option, Some, None, refl, sym, ap, subst, ◌∙◌, arith, inl, inr, true≢false, append_assoc}
use Rattle.std.specs.Prelude.{◌⊎◌, IfSome, is_some, slice_get, Contains}
use Rattle.std.proofs.lemmas.List.{take_more}
use Rattle.std.proofs.lemmas.Option.{same_Some, slice_get-get_or}
use Rattle.lp_base.specs.declared.limits.TheConstants.{END_OF_NUMBERS}
use Rattle.lp_base.specs.declared.place.Spot.{Spot}
use Rattle.lp_sig.specs.Pieces.{spelled}
use Rattle.lp_sig.specs.Places.{first_place}
use Rattle.lp_sig.specs.Modules.{first_names, of_each, said_of, constants_of}
use Rattle.lp_sig.specs.AsWritten.{bodies_of}
use Rattle.lp_sig.specs.Knowing.{Knows}
use Rattle.lp_sig.specs.Worded.{HasWords}
use Rattle.lp_sig.specs.Sights.{IsSightOf}
use Rattle.lp_sig.specs.ModuleFaults.{IsWordFault, otherwise, many, IsWordRefused, IsWordTaken}
use Rattle.lp_sig.specs.GoingTogether.{GoesWith, types_of}
use Rattle.lp_sig.specs.Holding.{line_at}
use Rattle.lp_sig.specs.inner.Telling.{SightTells, IsBlamed, IsRoom, AreTold, KnowsBefore, AreBodiesHere, AreTypedHere, IsTypedHere}
use Rattle.lp_sig.specs.declared.constants.Constant.{Constant}
use Rattle.lp_sig.specs.declared.making.Making.{Making}
use Rattle.lp_sig.specs.declared.module_fault.ModuleSigFault.{ModuleSigFault}
use Rattle.lp_sig.specs.declared.see.Sight.{Sight}
use Rattle.lp_sig.specs.declared.see.Sight.TheVariants.{Alike, Otherwise, TooMany}
use Rattle.lp_sig.specs.declared.signature.Signature.{Signature}

at_some : (P : Sight → Type 0) (o : Option Sight) (s : Sight) → o ≡ Some s → IfSome o P → P s
at_some P o s is h = subst (λ o. IfSome o P) is h

module _ (own : Signature) (used : List Signature) (text : List ℕ) (from : ℕ) (all : List (List ℕ)) (sights : List Sight) (w : List ℕ) (word : Spot) (o : Option Sight)
    (told : AreTold (own ∷ []) used sights) (is : w ≡ spelled text word) (place : IfSome o (IsSightOf sights from all w)) where
  -- a word whose signature goes
  pub told_taken : o ≡ Some Alike → IsWordTaken own used text from all word
  told_taken alike j u (named, has) =
      let (i, at, there) = at_some (IsSightOf sights from all w) o Alike alike place in
      let same : i ≡ j = same_Some i j (sym at ∙ ap (λ w. first_place w (first_names [] all)) is ∙ named) in
      let (v, found, tells) = told (from + i) Alike there in
      let this : v ≡ u = same_Some v u (sym found ∙ ap (λ i. slice_get used (from + i)) same ∙ has) in
      subst (λ i. GoesWith (own ∷ take (from + i) used) u) same (subst (GoesWith (own ∷ take (from + i) used)) this tells)

  -- and one that is blamed
  blamed_so : (before : List Signature) (u : Signature) (s : Sight) (e : ModuleSigFault) → SightTells before u s → IsBlamed word s e → IsWordFault before u word e
  blamed_so before u Alike e tells b = absurd b
  blamed_so before u Otherwise e tells b = otherwise b tells
  blamed_so before u TooMany e tells b = many b tells

  pub told_refused : (e m : ModuleSigFault) → (e ≡ m) ⊎ ((s : Sight) × (o ≡ Some s) × IsBlamed word s e) → (e ≡ m) ⊎ IsWordRefused own used text from all word e
  told_refused e m (inl q) = inl q
  told_refused e m (inr (s, some, b)) =
      let (i, at, there) = at_some (IsSightOf sights from all w) o s some place in
      let (u, found, tells) = told (from + i) s there in
      inr (i, u, (ap (λ w. first_place w (first_names [] all)) (sym is) ∙ at, found), blamed_so (own ∷ take (from + i) used) u s e tells b)

-- one more sight
abbrev TellsAt : List Signature → List Signature → Sight → ℕ → Type 0
TellsAt before used t i = (u : Signature) × (slice_get used i ≡ Some u) × SightTells (before ++ take i used) u t

module _ (before used : List Signature) (now new : List Sight) (s : Sight) (at : ℕ) (x : Signature) (l : at < length used) (is : x ≡ get_or used at x) (pushed : new ≡ now ++ s ∷ []) (count : length now ≡ at) where
  pub told_more : AreTold before used now → SightTells (before ++ take at used) x s → AreTold before used new
  told_more told this i t there = by now i (λ j f. told j t f) count (ap (λ l. slice_get l i) (sym pushed) ∙ there)
    where
      last : s ≡ t → TellsAt before used t at
      last e = (x, slice_get-get_or used at x l ∙ ap (λ u. Some u) (sym is), subst (SightTells (before ++ take at used) x) e this)

      split : (xs : List Sight) (k : ℕ) (i : ℕ) → length xs + k ≡ at → ((j : ℕ) → slice_get xs j ≡ Some t → TellsAt before used t (k + j)) → slice_get (xs ++ s ∷ []) i ≡ Some t → TellsAt before used t (k + i)
      split [] k zero n told f = let z : at ≡ k + 0 = omega (arith, n) in subst (TellsAt before used t) z (last (same_Some s t f))
      split [] k (suc i) n told f = absurd (cc)
      split (y ∷ ys) k zero n told f = told 0 f
      split (y ∷ ys) k (suc i) n told f =
          let z : suc k + i ≡ k + suc i = omega arith in
          subst (TellsAt before used t) z (split ys (suc k) i (omega (arith, n)) (λ j g. let y : k + suc j ≡ suc k + j = omega arith in subst (TellsAt before used t) y (told (suc j) g)) f)

      by : (xs : List Sight) (i : ℕ) → ((j : ℕ) → slice_get xs j ≡ Some t → TellsAt before used t j) → length xs ≡ at → slice_get (xs ++ s ∷ []) i ≡ Some t → TellsAt before used t i
      by xs i told n f =
          let z : 0 + i ≡ i = omega arith in
          subst (TellsAt before used t) z (split xs 0 i (omega (arith, n)) (λ j g. let y : j ≡ 0 + j = omega arith in subst (TellsAt before used t) y (told j g)) f)

  pub used_more : (before ++ take at used) ++ x ∷ [] ≡ before ++ take (at + 1) used
  used_more = append_assoc before (take at used) (x ∷ []) ∙ ap (λ l. before ++ l) (ap (λ x. take at used ++ x ∷ []) is ∙ sym (take_more used at x l))

-- what is known stays where nothing changes
pub knows_parts : (a b : Making) (before : List Signature) → b.names ≡ a.names → b.bodies ≡ a.bodies → b.constants ≡ a.constants → KnowsBefore a before → KnowsBefore b before
knows_parts a b before e f g k = record {
  names = subst (λ n. Knows n (of_each said_of before)) (sym e) k.names;
  words = subst (λ c. HasWords c (of_each constants_of before)) (sym g) k.words;
  kept = λ texts.
      let h = k.kept texts in
      record {
        bodies = subst (λ x. AreBodiesHere x.types.bank x.bodies.items (of_each said_of before) (of_each bodies_of before)) (sym f) h.bodies;
        constants = subst (λ x. AreTypedHere x.types.bank b.constants (of_each said_of before) (of_each types_of before)) (sym f)
            (subst (λ c. AreTypedHere a.bodies.types.bank c (of_each said_of before) (of_each types_of before)) (sym g) h.constants);
      };
}

pub knows_none : (m : Making) → Knows m.names [] → HasWords m.constants [] → m.bodies.bodies.items ≡ [] → m.constants.constants.items ≡ [] → KnowsBefore m []
knows_none m names words none empty = record {
  names = names;
  words = words;
  kept = λ texts. record {
    bodies = subst (λ bs. AreBodiesHere m.bodies.types.bank bs [] []) (sym none) (record { are = λ name place at. absurd (cc); count = refl; told = λ n h. absurd (true≢false (sym h)); no_line = λ i. none_line i });
    constants = λ k has. nothing k (subst (λ ks. Contains ks k) empty has);
  };
}
  where
    none_line : (i : ℕ) → line_at [] i ≡ None
    none_line zero = refl
    none_line (suc i) = refl

    nothing : (k : Constant) → Contains [] k → IsTypedHere m.bodies.types.bank [] [] k
    nothing k (i, l, at) = absurd (omega (arith, l))

-- whether there is a number
pub room_so : (o : Option ℕ) (k : ℕ) (b : Bool) → IfSome o (λ n. (n ≡ 32 + k) × (32 + k < END_OF_NUMBERS)) → (o ≡ None → END_OF_NUMBERS ≤ 32 + k) → b ≡ is_some o → IsRoom k b
room_so None k b some none is = subst (IsRoom k) (sym is) (none refl)
room_so (Some n) k b some none is = subst (IsRoom k) (sym is) some.1
