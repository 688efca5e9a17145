-- Flattened goals at the front of a branch, taken apart.
use Rattle.lp_proof_laws.proofs.Uniform.Settings.{IsSetting}
use Rattle.std.proofs.Common.{◌≡◌, ℕ, zero, suc, List, [], ◌∷◌, ◌++◌, map, length, ◌∙◌, refl, sym, ap, subst as transport, Bool, true, false, append_assoc}
use Rattle.std.specs.Prelude.{slice_index_or}
use Rattle.lp_unify_laws.specs.TypesBelow.{AreTypesBelow}
use Rattle.lp_calculus.specs.Types.{Ty, instance}
use Rattle.lp_calculus.specs.Term.{Term, substitute}
use Rattle.lp_calculus.specs.Typing.{o_type}
use Rattle.lp_calculus.proofs.Sigma.{instead}
use Rattle.lp_lemmas.specs.Each.{EachOf}
use Rattle.lp_model.specs.Pair.{Closing, closed}
use Rattle.lp_calculus.specs.Spine.{head_of}
use Rattle.lp_standard.specs.Schemes.{IsStandard}
use Rattle.lp_model.specs.Flat.{Written, Goal, Goals, Clause, Clauses, goal_list, clause_list, instantiate_goals, formula_of_goal, formula_of_goals, formula_of_clause, formula_of_clauses}
use Rattle.lp_model.specs.Branch.{Entry, entries}
use Rattle.lp_model.specs.Answers.{Variable, Closes}
use Rattle.lp_model.specs.Proofs.{Declared, IsFormula, assumed, Leaves, ProvableBy}
use Rattle.lp_unify_laws.proofs.Scopes.{prefix_more, more_none}
use Rattle.lp_search_laws.specs.Holds.{Holds, IsTyped}
use Rattle.lp_search_laws.specs.Clauses.{assumed_at, sentence_of, clauses_at}
use Rattle.lp_search_laws.specs.Branches.{IsPlainTerm, IsClauseHead, IsGoal, AreGoals, IsAssumable, IsTypedEntry, AreProved, IsPlainEntry}
use Rattle.lp_search_laws.specs.Written.{IsWrittenGoal, AreWrittenGoals, IsWrittenPlace}
use Rattle.lp_search_laws.proofs.AssumedLists.{both_assumed}
use Rattle.lp_search_laws.proofs.Goals.{goals_in_turn}
use Rattle.lp_search_laws.proofs.Written.{goals_each as written_each, instantiated_goals}
use Rattle.lp_search_laws.proofs.Opened.{first_only}
use Rattle.lp_search_laws.proofs.Programs.{stand_apart}
use Rattle.lp_search_laws.proofs.Formed.{formula_at}
use Rattle.lp_search_laws.proofs.TypedParts.{goals_typed, goals_each, goals_put, MayPut, typed_wider}
use Rattle.lp_search_laws.proofs.Fronts.{MayStand, each_at, entries_hold, hold_entries, entries_stand}

pub each_so : {A : Type 0} (P Q : A → Type 0) → ((a : A) → P a → Q a) → (xs : List A) → EachOf P xs → EachOf Q xs
each_so P Q f [] h = tt
each_so P Q f (x ∷ xs) h = (f x h.0, each_so P Q f xs h.1)

-- a place: its eigenconstants and its assumptions
pub record IsPlaceOf (d : Declared) (V : List Variable) (k : ℕ) (E : List Ty) (A : List Clause) (level : ℕ) : Type 0 where
  pub is_level : length E ≡ level
  pub below : AreTypesBelow k E
  pub typed : EachOf (λ c. IsTyped d E V (formula_of_clause c) o_type) A
  pub plain : EachOf (IsAssumable k) A

pub place_of : (d : Declared) (V : List Variable) (k : ℕ) (E : List Ty) (e : Entry) → IsTypedEntry d V E e → IsPlainEntry k E e → IsPlaceOf d V k E e.assumed e.level
place_of d V k E e t p = record { is_level = t.level; below = p.eigens; typed = t.assumed; plain = p.assumed }

-- goals in a place
pub list_stands : (d : Declared) (V : List Variable) (k : ℕ) (E : List Ty) (A : List Clause) (W : Written) (level mark : ℕ) → IsPlaceOf d V k E A
    level → IsWrittenPlace A W → (gs : List Goal) → EachOf (λ g. IsTyped d E V (formula_of_goal g) o_type) gs → EachOf (IsGoal k []) gs → EachOf
    IsWrittenGoal gs → MayStand d V k (each_at E gs) (entries gs A W level mark)
list_stands d V k E A W l m p pw gs t h w = entries_stand d V k E A W l m gs
    (each_so (λ g. IsTyped d E V (formula_of_goal g) o_type) (λ g. IsTypedEntry d V E (record { goal = g; assumed = A; written = W; level = l; mark = m })) (λ g w. record { level = p.is_level; goal = w; assumed = p.typed }) gs t)
    (each_so (IsGoal k []) (λ g. IsPlainEntry k E (record { goal = g; assumed = A; written = W; level = l; mark = m })) (λ g w. record { eigens = p.below; goal = w; assumed = p.plain }) gs h)
    pw w

pub goals_stand : (d : Declared) → IsStandard d → (V : List Variable) (k : ℕ) (E : List Ty) (A : List Clause) (W : Written) (level mark : ℕ) →
    IsPlaceOf d V k E A level → IsWrittenPlace A W → (gs : Goals) → IsTyped d E V (formula_of_goals gs) o_type → AreGoals k [] gs → AreWrittenGoals gs
    → MayStand d V k (each_at E (goal_list gs)) (entries (goal_list gs) A W level mark)
goals_stand d std V k E A W l m p pw gs t h w = list_stands d V k E A W l m p pw (goal_list gs) (goals_typed d std E V gs t) (goals_each k [] gs h) (written_each gs w)

pub goals_proved : {L : Leaves} (d : Declared) → IsSetting L d → (P : List Clause) (V : List Variable) (c : Closing) → Closes d V c → (E : List Ty) (A : List Clause) (W : Written) (level mark : ℕ) (gs : Goals) → IsTyped d E V (formula_of_goals gs) o_type →
    (Holds L d (map (instance c.types) E) (clauses_at P A c) c (formula_of_goals gs) → AreProved L d P c (each_at E (goal_list gs))
    (entries (goal_list gs) A W level mark)) × (AreProved L d P c (each_at E (goal_list gs)) (entries (goal_list gs) A W level mark) → Holds L d
    (map (instance c.types) E) (clauses_at P A c) c (formula_of_goals gs))
goals_proved {L} d std P V c l E A W v m gs t =
    let r = goals_in_turn d std (map (instance c.types) E) (clauses_at P A c) c gs (formula_at d V c l E (formula_of_goals gs) t) in
    ((λ p. entries_hold _ d P c E A W v m (goal_list gs) (r.0 p)), (λ p. r.1 (hold_entries _ d P c E A W v m (goal_list gs) p)))

-- goals opened with a term
pub may_open : (k : ℕ) (x : Bool) (u : Term) (f : ℕ → Term) → IsPlainTerm k u → (x ≡ true → IsClauseHead [] (head_of u)) → ((i : ℕ) → f i ≡ instead u i) → MayPut k (x ∷ []) [] f
may_open k x u f p h e = record { plain = plain; heads = heads }
  where
    plain : (i : ℕ) → IsPlainTerm k (f i)
    plain zero = transport (IsPlainTerm k) (sym (e zero)) p
    plain (suc i) = transport (IsPlainTerm k) (sym (e (suc i))) tt

    heads : (i : ℕ) → slice_index_or (x ∷ []) i false ≡ true → IsClauseHead [] (head_of (f i))
    heads zero g = transport (λ z. IsClauseHead [] (head_of z)) (sym (e zero)) (h g)
    heads (suc i) g = absurd (cc)

pub opened_stand : (d : Declared) → IsStandard d → (V : List Variable) (k : ℕ) (E : List Ty) (A : List Clause) (W : Written) (level mark : ℕ) →
    IsPlaceOf d V k E A level → IsWrittenPlace A W → (x : Bool) (u : Term) (f : ℕ → Term) → ((i : ℕ) → f i ≡ instead u i) → IsPlainTerm k u →
    (x ≡ true → IsClauseHead [] (head_of u)) →
    (gs : Goals) → IsTyped d E V (substitute u (formula_of_goals gs)) o_type → AreGoals k (x ∷ []) gs → AreWrittenGoals gs → MayStand d V k (each_at E (goal_list (instantiate_goals f gs))) (entries (goal_list (instantiate_goals f gs)) A W level mark)
opened_stand d std V k E A W l m p pw x u f e v h gs t a w =
    goals_stand d std V k E A W l m p pw (instantiate_goals f gs) (transport (λ z. IsTyped d E V z o_type) (sym (first_only u f e gs)) t) (goals_put k (x ∷ []) [] f (may_open k x u f v h e) gs a) (instantiated_goals f gs w)

pub opened_proved : {L : Leaves} (d : Declared) → IsSetting L d → (P : List Clause) (V : List Variable) (c : Closing) → Closes d V c → (E : List Ty)
    (A : List Clause) (W : Written) (level mark : ℕ) (u : Term) (f : ℕ → Term) → ((i : ℕ) → f i ≡ instead u i) → (gs : Goals) → IsTyped d E V
    (substitute u (formula_of_goals gs)) o_type →
    (Holds L d (map (instance c.types) E) (clauses_at P A c) c (substitute u (formula_of_goals gs)) → AreProved L d P c (each_at E (goal_list (instantiate_goals f gs))) (entries (goal_list (instantiate_goals f gs)) A W level mark)) ×
    (AreProved L d P c (each_at E (goal_list (instantiate_goals f gs))) (entries (goal_list (instantiate_goals f gs)) A W level mark) → Holds L d (map (instance c.types) E) (clauses_at P A c) c (substitute u (formula_of_goals gs)))
opened_proved {L} d std P V c l E A W v m u f e gs t =
    let q = first_only u f e gs in
    let r = goals_proved d std P V c l E A W v m (instantiate_goals f gs) (transport (λ z. IsTyped d E V z o_type) (sym q) t) in
    ((λ p. r.0 (transport (Holds L d (map (instance c.types) E) (clauses_at P A c) c) (sym q) p)), (λ p. transport (Holds L d (map (instance c.types) E) (clauses_at P A c) c) q (r.1 p)))

-- one more eigenconstant
pub next_place : (d : Declared) (V : List Variable) (k : ℕ) (E : List Ty) (A : List Clause) (level : ℕ) (T : Ty) → AreTypesBelow k (T ∷ []) → IsPlaceOf d V k E A level → IsPlaceOf d V k (E ++ T ∷ []) A (suc level)
next_place d V k E A l T b p = record {
  is_level = longer E T ∙ ap suc p.is_level;
  below = below E p.below;
  typed = each_so (λ c. IsTyped d E V (formula_of_clause c) o_type) (λ c. IsTyped d (E ++ T ∷ []) V (formula_of_clause c) o_type) (λ c w. typed_wider d E (E ++ T ∷ []) V V (prefix_more E (T ∷ [])) (more_none V) (formula_of_clause c) o_type w) A p.typed;
  plain = p.plain;
}
  where
    longer : (E : List Ty) (T : Ty) → length (E ++ T ∷ []) ≡ suc (length E)
    longer [] T = refl
    longer (U ∷ E) T = ap suc (longer E T)

    below : (E : List Ty) → AreTypesBelow k E → AreTypesBelow k (E ++ T ∷ [])
    below [] h = b
    below (U ∷ E) h = (h.0, below E h.1)

-- assumptions: those that are new stand in front in the branch, and behind as they are assumed
pub assumed_proved : {L : Leaves} (d : Declared) → IsSetting L d → (E : List Ty) (P A : List Clause) (c : Closing) (cs : Clauses) (G : Term) → IsFormula d E (closed c (formula_of_clauses cs)) →
    (ProvableBy L d E (clauses_at P A c ++ assumed (closed c (formula_of_clauses cs)) ∷ []) G → ProvableBy L d E (clauses_at P (clause_list cs ++ A) c) G) ×
    (ProvableBy L d E (clauses_at P (clause_list cs ++ A) c) G → ProvableBy L d E (clauses_at P A c ++ assumed (closed c (formula_of_clauses cs)) ∷ []) G)
assumed_proved {L} d std E P A c cs G f =
    let r = stand_apart d std E (clauses_at P A c) c cs f G in
    let e : clauses_at P A c ++ assumed_at c (clause_list cs) ≡ clauses_at P (clause_list cs ++ A) c = append_assoc (map sentence_of P) (assumed_at c A) (assumed_at c (clause_list cs)) ∙ ap (λ z. map sentence_of P ++ z) (sym (both_assumed c (clause_list cs) A)) in
    ((λ p. transport (λ R. ProvableBy L d E R G) e (r.0 p)), (λ p. r.1 (transport (λ R. ProvableBy L d E R G) (sym e) p)))
