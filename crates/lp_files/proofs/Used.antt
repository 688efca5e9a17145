-- Objects in order are the root's and all that they use, each once.
use Rattle.std.proofs.Common.{◌≡◌, ◌∙◌, ◌++◌, ◌∷◌, [], ℕ, List, inl, inr, sym, subst, arith}
use Rattle.std.specs.Prelude.{◌⊎◌, Contains}
use Rattle.std.proofs.lemmas.List.{append_assoc, append-nil}
use Rattle.std.proofs.lemmas.List.Elements.{Contains-append_cases, Contains-append_left, Contains-append_right, Contains-push_cases}
use Rattle.lp_lemmas.proofs.Each.{any_back, any_front}
use Rattle.lp_lemmas.proofs.Elements.{Contains_head, Contains_single}
use Rattle.lp_code.specs.declared.object.Object.{Object}
use Rattle.lp_files.specs.Ordered.{AreInOrder, HasName, Reads, is_read, is_there, reads_none, uses_of}
use Rattle.lp_files.specs.Used.{AreNewBehind, AreUsedOnce, BeginsNamed, HaveUsed, UsesName}

-- those before stay in front
grows : {before all : List Object} {needs left : List (List ℕ)} → Reads before needs all left → (more : List Object) × (all ≡ before ++ more)
grows {before = before} reads_none = ([], sym (append-nil before))
grows (is_there old rest) = grows rest
grows {before = before} (is_read o new is rest) = let (more, e) = grows rest in (o ∷ more, e ∙ append_assoc before (o ∷ []) more)

pub begins_named : (root : List ℕ) (os : List Object) → AreInOrder root os → BeginsNamed root os
begins_named root os (is_there old rest) = absurd old
begins_named root os (is_read o new is rest) = let (more, e) = grows rest in (o, more, e, is)

-- what those before use has its object, or is needed
abbrev AreClosed : (before : List Object) → (needs : List (List ℕ)) → Type 0
AreClosed before needs = (o : Object) (name : List ℕ) → Contains before o → Contains (uses_of o) name → HasName before name ⊎ Contains needs name

closed_there : (before : List Object) (n : List ℕ) (needs : List (List ℕ)) → HasName before n → AreClosed before (n ∷ needs) → AreClosed before needs
closed_there before n needs old h o name at uses = by (h o name at uses)
  where
    by : HasName before name ⊎ Contains (n ∷ needs) name → HasName before name ⊎ Contains needs name
    by (inl a) = inl a
    by (inr c) = elim (Contains-append_cases (n ∷ []) needs name c) [ inl a ↦ inl (subst (HasName before) (Contains_single n name a) old) | inr b ↦ inr b ]

closed_more : (before : List Object) (n : List ℕ) (o : Object) (needs : List (List ℕ)) → o.name.items ≡ n → AreClosed before (n ∷ needs) → AreClosed (before ++ o ∷ []) (uses_of o ++ needs)
closed_more before n o needs is h p name at uses = elim (Contains-push_cases before o p at) [ inl a ↦ older (h p name a uses) | inr same ↦ newest same ]
  where
    newest : o ≡ p → HasName (before ++ o ∷ []) name ⊎ Contains (uses_of o ++ needs) name
    newest same = inr (Contains-append_left (uses_of o) needs name (subst (λ x. Contains (uses_of x) name) (sym same) uses))

    older : HasName before name ⊎ Contains (n ∷ needs) name → HasName (before ++ o ∷ []) name ⊎ Contains (uses_of o ++ needs) name
    older (inl a) = inl (any_front (λ (x : Object). x.name.items ≡ name) before (o ∷ []) a)
    older (inr c) =
        elim (Contains-append_cases (n ∷ []) needs name c) [
          | inl a ↦ inl (any_back (λ (x : Object). x.name.items ≡ name) before (o ∷ []) (inl (is ∙ Contains_single n name a)))
          | inr b ↦ inr (Contains-append_right (uses_of o) needs name b)
        ]

closed : {before all : List Object} {needs : List (List ℕ)} → Reads before needs all [] → AreClosed before needs → HaveUsed all
closed {before = before} reads_none h = λ o name at uses. elim (h o name at uses) [ inl a ↦ a | inr c ↦ let lt = c.1 in absurd (omega (arith, lt)) ]
closed {before = before} (is_there {n = n} {needs = needs} old rest) h = closed rest (closed_there before n needs old h)
closed {before = before} (is_read {n = n} {needs = needs} o new is rest) h = closed rest (closed_more before n o needs is h)

pub have_used : (root : List ℕ) (os : List Object) → AreInOrder root os → HaveUsed os
have_used root os r = closed r (λ o name at uses. let lt = at.1 in absurd (omega (arith, lt)))

-- what is needed is used by one of those before
abbrev AreNeeded : (before : List Object) → (needs : List (List ℕ)) → Type 0
AreNeeded before needs = (name : List ℕ) → Contains needs name → UsesName before name

needed_more : (before : List Object) (n : List ℕ) (o : Object) (needs : List (List ℕ)) → AreNeeded before (n ∷ needs) → AreNeeded (before ++ o ∷ []) (uses_of o ++ needs)
needed_more before n o needs h name c =
    elim (Contains-append_cases (uses_of o) needs name c) [
      | inl a ↦ any_back (λ (x : Object). Contains (uses_of x) name) before (o ∷ []) (inl a)
      | inr b ↦ any_front (λ (x : Object). Contains (uses_of x) name) before (o ∷ []) (h name (Contains-append_right (n ∷ []) needs name b))
    ]

once : {before all : List Object} {needs left : List (List ℕ)} → Reads before needs all left → AreNeeded before needs → (more : List Object) × (all ≡ before ++ more) × AreNewBehind before more
once {before = before} reads_none h = ([], sym (append-nil before), tt)
once (is_there {n = n} {needs = needs} old rest) h = once rest (λ name c. h name (Contains-append_right (n ∷ []) needs name c))
once {before = before} (is_read {n = n} {needs = needs} o new is rest) h =
    let (more, e, k) = once rest (needed_more before n o needs h) in
    (o ∷ more, e ∙ append_assoc before (o ∷ []) more, (subst (UsesName before) (sym is) (h n (Contains-append_left (n ∷ []) needs n (Contains_head n []))), (λ k. new (subst (HasName before) is k)), k))

pub used_once : (root : List ℕ) (os : List Object) → AreInOrder root os → AreUsedOnce os
used_once root os (is_there old rest) = absurd old
used_once root os (is_read o new is rest) =
    let (more, e, k) = once rest (λ name c. inl (subst (λ l. Contains l name) (append-nil (uses_of o)) c)) in
    subst AreUsedOnce (sym e) k
