-- What sights of kinds tell, one kind after the other.
use Rattle.std.proofs.Common.{◌≡◌, ℕ, ◌+◌, ◌<◌, ◌≤◌, List, [], ◌∷◌, ◌++◌, length, map, get_or, take, drop, Bool, true, false, Option, Some, None, refl, sym, ap, subst, ◌∙◌, inl, inr, append_assoc}
use Rattle.std.specs.Prelude.{◌⊎◌, if◌then◌else◌, nat_eq}
use Rattle.std.specs.List.{range_with_len}
use Rattle.std.proofs.lemmas.Bool.{eqb-true, eqb-false}
use Rattle.std.proofs.lemmas.List.{take_more, map-append, take-append-drop}
use Rattle.std.proofs.lemmas.List.Elements.{All-push}
use Rattle.std.proofs.lemmas.Option.{same_Some}
use Rattle.lp_base.specs.declared.limits.TheConstants.{END_OF_NUMBERS}
use Rattle.lp_sig.specs.Rows.{Row, found}
use Rattle.lp_sig.specs.Said.{Said, a_kind, an_abbreviation}
use Rattle.lp_sig.specs.Words.{standard_said, meaning_of}
use Rattle.lp_sig.specs.Types.{kind_number_of}
use Rattle.lp_sig.specs.Modules.{kind_said}
use Rattle.lp_sig.specs.Named.{kind_name}
use Rattle.lp_sig.specs.GoingTogether.{IsFirstWrong, KindsGo, IsSameKind, IsNumbered, IsOtherKind, HasNoKindNumber}
use Rattle.lp_sig.specs.inner.Telling.{first_sight, Tells, TellsNext, KindTells, KindsTell, IsNumberHere, of_kind, of_no_kind}
use Rattle.lp_sig.specs.declared.entries.KindEntry.{KindEntry}
use Rattle.lp_sig.specs.declared.see.Sight.{Sight}
use Rattle.lp_sig.specs.declared.see.Sight.TheVariants.{Alike, Otherwise, TooMany}
use Rattle.lp_sig.proofs.Growing.{meaning_more, kind_number_more}
use Rattle.lp_sig.proofs.Sighting.{found_last, name_above}
use Rattle.lp_sig.proofs.SeenKinds.{name_at, number_at}

-- one more entry
module _ {E : Type 0} (Go : List E → Type 0) (Other Many : List E → E → Type 0) (es : List E) (e : E) where
  longer : (W : List E → E → Type 0) → IsFirstWrong Go W es → IsFirstWrong Go W (es ++ e ∷ [])
  longer W f = record {
    front = f.front;
    entry = f.entry;
    rest = f.rest ++ e ∷ [];
    parts = ap (λ l. l ++ e ∷ []) f.parts ∙ append_assoc f.front (f.entry ∷ f.rest) (e ∷ []);
    before = f.before;
    wrong = f.wrong;
  }

  here : (W : List E → E → Type 0) → Go es → W es e → IsFirstWrong Go W (es ++ e ∷ [])
  here W go wrong = record { front = es; entry = e; rest = []; parts = refl; before = go; wrong = wrong }

  after : (s t : Sight) → Tells Go Other Many es s → (Go es → TellsNext Go Other Many es e t) → Tells Go Other Many (es ++ e ∷ []) (first_sight s t)
  after Alike Alike now next = next now
  after Alike Otherwise now next = here Other now (next now)
  after Alike TooMany now next = here Many now (next now)
  after Otherwise t now next = longer Other now
  after TooMany t now next = longer Many now

  pub tells_more : (s t r : Sight) → r ≡ first_sight s t → Tells Go Other Many es s → (Go es → TellsNext Go Other Many es e t) → Tells Go Other Many (es ++ e ∷ []) r
  tells_more s t r is now next = subst (Tells Go Other Many (es ++ e ∷ [])) (sym is) (after s t now next)

-- the next of a list
pub taken_more : {E : Type 0} (es : List E) (i : ℕ) (e : E) → i < length es → e ≡ get_or es i e → take i es ++ e ∷ [] ≡ take (i + 1) es
taken_more es i e l at = ap (λ x. take i es ++ x ∷ []) at ∙ sym (take_more es i e l)

-- a kind by what its name means
module _ (said : List (Row Said)) (name : List ℕ) where
  kinds_apart : (c d : ℕ) → a_kind c ≡ a_kind d → c ≡ d
  kinds_apart c d e = cc

  module _ (known arity number : ℕ) (means : Some (a_kind known) ≡ meaning_of name said) (has : kind_number_of name said ≡ Some number) where
    other_arity : nat_eq known arity ≡ false → meaning_of name said ≡ Some (a_kind arity) → ⊥
    other_arity f other = eqb-false known arity f (kinds_apart known arity (same_Some (a_kind known) (a_kind arity) (means ∙ other)))

    same_arity : nat_eq known arity ≡ true → meaning_of name said ≡ Some (a_kind arity)
    same_arity t = sym means ∙ ap (λ n. Some (a_kind n)) (eqb-true known arity t)

    pub told_past : (s r : Sight) → END_OF_NUMBERS ≤ number → s ≡ (if nat_eq known arity then Alike else Otherwise) → r ≡ first_sight s TooMany → KindTells said name arity r
    told_past s r l is and = by (nat_eq known arity) refl is
      where
        by : (t : Bool) → nat_eq known arity ≡ t → s ≡ (if t then Alike else Otherwise) → KindTells said name arity r
        by true t is = subst (KindTells said name arity) (sym (and ∙ ap (λ s. first_sight s TooMany) is)) (same_arity t, (number, has, l))
        by false t is = subst (KindTells said name arity) (sym (and ∙ ap (λ s. first_sight s TooMany) is)) (other_arity t)

    pub told_kind : (s : Sight) → number < END_OF_NUMBERS → s ≡ (if nat_eq known arity then Alike else Otherwise) → KindTells said name arity s
    told_kind s l is = by (nat_eq known arity) refl is
      where
        by : (t : Bool) → nat_eq known arity ≡ t → s ≡ (if t then Alike else Otherwise) → KindTells said name arity s
        by true t is = subst (KindTells said name arity) (sym is) (same_arity t, (number, has, l))
        by false t is = subst (KindTells said name arity) (sym is) (other_arity t)

    pub kind_here : IsNumberHere said name number ⊎ (meaning_of name said ≡ None)
    kind_here = inl (of_kind known (sym means) has)

  pub no_kind : (arity p : ℕ) → Some (an_abbreviation p) ≡ meaning_of name said → meaning_of name said ≡ Some (a_kind arity) → ⊥
  no_kind arity p means other = let z : an_abbreviation p ≡ a_kind arity = same_Some (an_abbreviation p) (a_kind arity) (means ∙ other) in absurd (cc)

  pub nothing : (arity : ℕ) → None ≡ meaning_of name said → meaning_of name said ≡ Some (a_kind arity) → ⊥
  nothing arity none other = let z : None ≡ Some (a_kind arity) = none ∙ other in absurd (cc)

-- what was just said is known
pub known_last : (said : List (Row Said)) (name : List ℕ) (m : Said) → (b : Said) × (meaning_of name (said ++ (name, m) ∷ []) ≡ Some b)
unfolding meaning_of
known_last said name m = let (b, e) = found_last name (standard_said ++ said) m in (b, ap (found name) (sym (append_assoc standard_said said ((name, m) ∷ []))) ∙ e)

pub here_at_last : (said : List (Row Said)) (name : List ℕ) (m : Said) (n : ℕ) → IsNumberHere (said ++ (name, m) ∷ []) name n ⊎ (meaning_of name (said ++ (name, m) ∷ []) ≡ None) → IsNumberHere (said ++ (name, m) ∷ []) name n
here_at_last said name m n (inl h) = h
here_at_last said name m n (inr none) = let (b, e) = known_last said name m in let z : None ≡ Some b = sym none ∙ e in absurd (cc)

-- numbers stay
pub number_stays : (said more : List (Row Said)) (name : List ℕ) (n : ℕ) → IsNumberHere said name n → IsNumberHere (said ++ more) name n
number_stays said more name n (of_kind c m e) = of_kind c (meaning_more said more name (a_kind c) m) (kind_number_more said more name n e)
number_stays said more name n (of_no_kind p m e) = of_no_kind p (meaning_more said more name (an_abbreviation p) m) e

number_known : (said : List (Row Said)) (name : List ℕ) (n : ℕ) → IsNumberHere said name n → (b : Said) × (meaning_of name said ≡ Some b)
number_known said name n (of_kind c m e) = (a_kind c, m)
number_known said name n (of_no_kind p m e) = (an_abbreviation p, m)

-- one more kind, under all that is said later
module _ (said more : List (Row Said)) (front : List KindEntry) (e : KindEntry) where
  kind_next : (s : Sight) (b : Said) → meaning_of e.name.items said ≡ Some b → KindTells said e.name.items e.arity s → KindsGo (said ++ more) front →
      TellsNext (KindsGo (said ++ more)) (IsOtherKind (said ++ more)) (HasNoKindNumber (said ++ more)) front e s
  kind_next Alike b known (m, (n, k, l)) go =
      All-push (λ e. IsSameKind (said ++ more) e × IsNumbered (said ++ more) e.name.items) front e go (meaning_more said more e.name.items (a_kind e.arity) m, (n, kind_number_more said more e.name.items n k, l))
  kind_next Otherwise b known never go = λ later.
      let same : b ≡ a_kind e.arity = same_Some b (a_kind e.arity) (sym (meaning_more said more e.name.items b known) ∙ later) in
      never (known ∙ ap (λ b. Some b) same)
  kind_next TooMany b known (m, (n, k, l)) go = (meaning_more said more e.name.items (a_kind e.arity) m, (n, kind_number_more said more e.name.items n k, l))

module _ (said : List (Row Said)) (es : List KindEntry) (i : ℕ) (e : KindEntry) (l : i < length es) (at : e ≡ get_or es i e) where
  all_said : (said ++ map kind_said (take (i + 1) es)) ++ map kind_said (drop (i + 1) es) ≡ said ++ map kind_said es
  all_said =
      append_assoc said (map kind_said (take (i + 1) es)) (map kind_said (drop (i + 1) es)) ∙ ap (λ r. said ++ r)
      (sym (map-append kind_said (take (i + 1) es) (drop (i + 1) es)) ∙ ap (map kind_said) (take-append-drop (i + 1) es))

  pub kinds_told : (later : List (Row Said)) (s t r : Sight) (n : ℕ) → r ≡ first_sight s t → IsNumberHere (said ++ map kind_said (take (i + 1) es)) e.name.items n → KindTells (said ++ map kind_said (take (i + 1) es)) e.name.items e.arity t →
      KindsTell ((said ++ map kind_said es) ++ later) (take i es) s → KindsTell ((said ++ map kind_said es) ++ later) (take (i + 1) es) r
  kinds_told later s t r n is here this before =
      let (b, known) = number_known (said ++ map kind_said (take (i + 1) es)) e.name.items n here in
      let w = (said ++ map kind_said (take (i + 1) es)) ++ (map kind_said (drop (i + 1) es) ++ later) in
      let all_later : (said ++ map kind_said (take (i + 1) es)) ++ (map kind_said (drop (i + 1) es) ++ later) ≡ (said ++ map kind_said es) ++ later =
      sym (append_assoc (said ++ map kind_said (take (i + 1) es)) (map kind_said (drop (i + 1) es)) later) ∙ ap (λ r. r ++ later) all_said in
      subst (λ now. KindsTell ((said ++ map kind_said es) ++ later) now r) (taken_more es i e l at)
      (subst (λ w. KindsTell w (take i es ++ e ∷ []) r) all_later
      (tells_more (KindsGo w) (IsOtherKind w) (HasNoKindNumber w) (take i es) e s t r is (subst (λ w. KindsTell w (take i es) s) (sym all_later) before)
      (kind_next (said ++ map kind_said (take (i + 1) es)) (map kind_said (drop (i + 1) es) ++ later) (take i es) e t b known this)))

  -- one more kind has its number
  pub kinds_here : map (λ e. e.number) es ≡ range_with_len 8 (length es) → (old new : ℕ → Option ℕ) (number : ℕ) → ((k : ℕ) → new k ≡ (if nat_eq e.number k then Some number else old k)) →
      IsNumberHere (said ++ map kind_said (take (i + 1) es)) e.name.items number →
      ((k n : ℕ) → old k ≡ Some n → (name : List ℕ) × (kind_name (map (λ e. e.name.items) es) k ≡ Some name) × IsNumberHere (said ++ map kind_said es) name n) →
      (k n : ℕ) → new k ≡ Some n → (name : List ℕ) × (kind_name (map (λ e. e.name.items) es) k ≡ Some name) × IsNumberHere (said ++ map kind_said es) name n
  kinds_here numbers old new number put this before k n found = by (nat_eq e.number k) refl (sym (put k) ∙ found)
    where
      by : (t : Bool) → nat_eq e.number k ≡ t → (if t then Some number else old k) ≡ Some n → (name : List ℕ) × (kind_name (map (λ e. e.name.items) es) k ≡ Some name) × IsNumberHere (said ++ map kind_said es) name n
      by true t f =
          let z : e.number ≡ k = eqb-true e.number k t in
          let m : number ≡ n = same_Some number n f in
          let place : e.number ≡ 8 + i = number_at es i e l at numbers in (
            e.name.items,
            name_above (map (λ e. e.name.items) es) k i e.name.items (sym z ∙ place) (name_at es i e l at),
            subst (IsNumberHere (said ++ map kind_said es) e.name.items) m (subst (λ r. IsNumberHere r e.name.items number) all_said (number_stays (said ++ map kind_said (take (i + 1) es)) (map kind_said (drop (i + 1) es)) e.name.items number this)),
          )
      by false t f = before k n f
