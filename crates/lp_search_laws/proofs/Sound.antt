-- The search of the whole language is sound: each closed instance of an answer has a proof from the source clauses, with failing searches as leaves.
use Rattle.std.proofs.Common.{◌≡◌, ℕ, List, [], ◌∷◌, map, length, Some, refl, inl, inr, subst as transport}
use Rattle.lp_lemmas.specs.Each.{AnyOf, EachOf}
use Rattle.lp_standard.specs.Schemes.{IsStandard}
use Rattle.lp_model.specs.Unify.{unit_limit}
use Rattle.lp_model.specs.Flat.{Goals, Clause}
use Rattle.lp_model.specs.Flatten.{ClauseFormula, flatten_query}
use Rattle.lp_model.specs.Skeleton.{run}
use Rattle.lp_model.specs.Branch.{Answer}
use Rattle.lp_model.specs.Search.{look, start}
use Rattle.lp_model.specs.Proofs.{AreFlattened, Declared, Leaves}
use Rattle.lp_model.specs.Answers.{Query, AnswerTyping, Instance, IsClosedInstance, IsInstance, IsWellFormed, TypedAnswer}
use Rattle.lp_proof_laws.proofs.Uniform.Assumptions.{AreKept}
use Rattle.lp_search_laws.specs.Clauses.{sentence_of}
use Rattle.lp_search_laws.specs.Begun.{first_branch, first_typing}
use Rattle.lp_search_laws.specs.Given.{IsGiven, IsGivenFrom}
use Rattle.lp_search_laws.specs.Started.{IsTypedQuery, IsTypedSentence, IsProvableBy}
use Rattle.lp_search_laws.specs.Failed.{Order, InOrder, IsFailedSearch}
use Rattle.lp_search_laws.specs.Branches.{IsQueryInstance, Sol, TypedTask, going, task_of}
use Rattle.lp_search_laws.proofs.Begins.{each_sentence, start_typed, program_typed, proves_it}
use Rattle.lp_search_laws.proofs.LooksRight.{each_look}
use Rattle.lp_search_laws.proofs.WholeRight.{query_instance, an_instance}
use Rattle.lp_search_laws.proofs.FailedSearches.{KeepsSame, setting_of, failed_same, program_in_order}
use Rattle.lp_search_laws.proofs.RefutedLeaves.{denied_leaf}
use Rattle.lp_search_laws.proofs.Runs.{all_stay, run_right}
use Rattle.lp_search_laws.proofs.Stack.Ends.{leaves_any}

module _ {o : Order} {L : Leaves} (d : Declared) (std : IsStandard d) (F : List ClauseFormula) (P : List Clause) (same : KeepsSame o P L d)
    (kept : AreKept L [] F (map sentence_of P) × AreKept L [] (map sentence_of P) F) (l : ℕ) (s : EachOf (IsTypedSentence d) F)
    (x : AreFlattened d F P) (q : Query) (gs : Goals) (t : IsTypedQuery d q) (e : flatten_query l d q.formula ≡ Some gs) where
  abbrev pub first : TypedTask
  first = going (first_typing q gs) (first_branch q.type_vars (length q.vars) gs)

  -- closed instances of answers
  pub each_proved : (as' : List TypedAnswer) → EachOf (λ a. IsWellFormed d q a.typing a.answer) as' → EachOf (λ a. (i : Instance) → IsQueryInstance d q i → IsInstance d a.typing a.answer i → AnyOf (Sol L d P q i) (first ∷ [])) as' →
      EachOf (λ a. (i : Instance) → IsClosedInstance d a.typing a.answer i → IsProvableBy L d F q i) as'
  each_proved [] w h = tt
  each_proved (a ∷ as') w h = (
    (λ i c. elim (h.0 i (query_instance d q a.typing a.answer i w.0 c) (an_instance d a.typing a.answer i c)) [
      | inl y ↦ proves_it d (setting_of d same std) l q gs t e F P s x kept i y
      | inr y ↦ absurd y
    ]),
    each_proved as' w.1 h.1,
  )

pub each_given : (n : ℕ) (d : Declared) (P : List Clause) (q : Query) (gs : Goals) (as' : List TypedAnswer) → EachOf (λ a. AnyOf (λ T. IsGivenFrom n d P T a) (going (first_typing q gs) (first_branch q.type_vars (length q.vars) gs) ∷ [])) as' → EachOf (IsGiven n d P q gs) as'
each_given n d P q gs [] h = tt
each_given n d P q gs (a ∷ as') h = (elim h.0 [ inl x ↦ x | inr x ↦ absurd x ], each_given n d P q gs as' h.1)

module _ (d : Declared) (std : IsStandard d) (l : ℕ) (F : List ClauseFormula) (P : List Clause) (s : EachOf (IsTypedSentence d) F) (x : AreFlattened d F P) (q : Query) (gs : Goals) (t : IsTypedQuery d q) (e : flatten_query l d q.formula ≡ Some gs) where
  abbrev Fine : ℕ → Answer → Type 0
  Fine n a = (y : AnswerTyping) × IsGiven n d P q gs (record { answer = a; typing = y }) × IsWellFormed d q y a × ((i : Instance) → IsClosedInstance d y a i → IsProvableBy (IsFailedSearch (InOrder F) d P) d F q i)

  again : (n : ℕ) (a : TypedAnswer) → IsGiven n d P q gs a → IsGiven n d P q gs (record { answer = a.answer; typing = a.typing })
  again n a h = record { typing = h.typing; branch = h.branch; reached = h.reached; done = h.done; answer = h.answer; is = h.is }

  each_fine : (n : ℕ) (as' : List TypedAnswer) → EachOf (IsGiven n d P q gs) as' → EachOf (λ a. IsWellFormed d q a.typing a.answer) as' → EachOf
      (λ a. (i : Instance) → IsClosedInstance d a.typing a.answer i → IsProvableBy (IsFailedSearch (InOrder F) d P) d F q i) as' → EachOf (Fine n)
      (map (λ a. a.answer) as')
  each_fine n [] g w h = tt
  each_fine n (a ∷ as') g w h = ((a.typing, again n a g.0, w.0, h.0), each_fine n as' g.1 w.1 h.1)

  pub answers_sound : (n j m steps answers : ℕ) → EachOf (Fine n) (run (look unit_limit n P) j m (start q.type_vars (length q.vars) gs steps answers)).answers
  answers_sound n j m steps answers =
      let first = going (first_typing q gs) (first_branch q.type_vars (length q.vars) gs) in
      let same = failed_same (InOrder F) d P in
      let setting = setting_of d same std in
      let r = run_right n d P q (IsFailedSearch (InOrder F) d P) j (λ u. Unit {0}) (λ u. Unit {0}) (λ k. Unit {0}) (λ k. ⊥)
      (λ height T k. each_look n d setting P (program_typed d std F P s x) q height T k)
      (λ height T k m. all_stay (λ u. Unit {0}) (look unit_limit n P height (task_of T)) (leaves_any (look unit_limit n P height (task_of T))))
      (λ y z k h. h) (λ y z k h. h)
      (λ T u f ts r m st rows k p ns y o c cl. let z = denied_leaf (InOrder F) n d P q j T u f ts r st rows k p ns y c cl in (z.leaf, z.fails))
      (λ T u f ts r m st rows k p ns y o c cl z. o) m (start q.type_vars (length q.vars) gs steps answers) (first ∷ []) refl
      (((start_typed d std l q gs t e n steps answers).1, tt), tt) in
      transport (EachOf (Fine n)) r.is (each_fine n r.typed (each_given n d P q gs r.typed r.given) r.well_formed (each_proved d std F P same (program_in_order d F P same (each_sentence d F s) x) l s x q gs t e r.typed r.well_formed (r.sound tt)))
