-- What the walk gives: each module once, behind all that it accumulates, all of them reached from the root, which is the last.
use Rattle.std.proofs.Common.{◌≡◌, ℕ, suc, ◌<◌, List, [], ◌∷◌, ◌++◌, length, refl, sym, ap, subst, ◌∙◌, zero, get_or, arith, inl, inr}
use Rattle.std.specs.Prelude.{◌⊎◌, All, Contains}
use Rattle.std.proofs.lemmas.List.Elements.{All-nil, All-cons, All-map, All-contains, Contains-append_left, Contains-push, Contains-push_cases, Contains-get_or}
use Rattle.lp_lemmas.proofs.Elements.{Contains_head, Contains_tail}
use Rattle.lp_module.specs.Order.{Way, out_of, used_by, Leads, there, onward, HasNoCircle, Visits, visited, again, first_time, Ordered, no_module, one_more}

-- what a walk does to what was visited before
record Walked (ways : List (List Way)) (before rest after : List ℕ) : Type 0 where
  pub ordered : Ordered ways after
  pub taken : All (Contains after) rest
  pub kept : (x : ℕ) → Contains before x → Contains after x
  pub reached : (x : ℕ) → Contains after x → Contains before x ⊎ ((r : ℕ) × Contains rest r × Leads ways r x)

entered : (ways : List (List Way)) (before between rest after : List ℕ) (m : ℕ) → HasNoCircle ways → (Contains before m → ⊥) → Walked ways before (used_by ways m) between → (Ordered ways (between ++ m ∷ []) → Walked ways (between ++ m ∷ []) rest after) → Walked ways before (m ∷ rest) after
entered ways before between rest after m free new first then_rest = record {
  ordered = second.ordered;
  taken = All-cons (Contains after) m rest (second.kept m (Contains-push between m)) second.taken;
  kept = λ x c. second.kept x (Contains-append_left between (m ∷ []) x (first.kept x c));
  reached = λ x c. from_second x (second.reached x c);
}
  where
    from_first : (x : ℕ) → Contains before x ⊎ ((r : ℕ) × Contains (used_by ways m) r × Leads ways r x) → Contains before x ⊎ ((r : ℕ) × Contains (m ∷ rest) r × Leads ways r x)
    from_first x (inl c) = inl c
    from_first x (inr (r, u, l)) = inr (m, Contains_head m rest, onward m r x u l)

    not_met : Contains before m ⊎ ((r : ℕ) × Contains (used_by ways m) r × Leads ways r m) → ⊥
    not_met (inl c) = new c
    not_met (inr (r, u, l)) = All-contains (λ k. Leads ways k m → ⊥) (used_by ways m) r (All-map (λ k. Leads ways k m → ⊥) (λ w. w.1) (out_of ways m) (free m)) u l

    second : Walked ways (between ++ m ∷ []) rest after
    second = then_rest (one_more between (between ++ m ∷ []) m first.ordered (λ c. not_met (first.reached m c)) first.taken refl)

    from_between : (x : ℕ) → Contains between x ⊎ (m ≡ x) → Contains before x ⊎ ((r : ℕ) × Contains (m ∷ rest) r × Leads ways r x)
    from_between x (inl c) = from_first x (first.reached x c)
    from_between x (inr e) = inr (m, Contains_head m rest, subst (Leads ways m) e (there m))

    from_second : (x : ℕ) → Contains (between ++ m ∷ []) x ⊎ ((r : ℕ) × Contains rest r × Leads ways r x) → Contains before x ⊎ ((r : ℕ) × Contains (m ∷ rest) r × Leads ways r x)
    from_second x (inl c) = from_between x (Contains-push_cases between m x c)
    from_second x (inr (r, d, l)) = inr (r, Contains_tail m r rest d, l)

walked : (ways : List (List Way)) (before rest after : List ℕ) → HasNoCircle ways → Visits ways before rest after → Ordered ways before → Walked ways before rest after
walked ways before rest after free (visited b) o = record { ordered = o; taken = All-nil (Contains before); kept = λ x c. c; reached = λ x c. inl c }
walked ways before rest after free (again b r a m c v) o =
    let w : Walked ways before r after = walked ways before r after free v o in
    record {
      ordered = w.ordered;
      taken = All-cons (Contains after) m r (w.kept m c) w.taken;
      kept = w.kept;
      reached = λ x d. elim (w.reached x d) [ inl e ↦ inl e | inr (k, i, l) ↦ inr (k, Contains_tail m k r i, l) ];
    }
walked ways before rest after free (first_time b t r a m new v w) o =
    entered ways before t r after m free new (walked ways before (used_by ways m) t free v o) (λ p. walked ways (t ++ m ∷ []) r after free w p)

pub walk_ordered : (ways : List (List Way)) (root : ℕ) (order : List ℕ) → HasNoCircle ways → Visits ways [] (root ∷ []) order → Ordered ways order
walk_ordered ways root order free v = (walked ways [] (root ∷ []) order free v (no_module)).ordered

pub walk_reached : (ways : List (List Way)) (root : ℕ) (order : List ℕ) → HasNoCircle ways → Visits ways [] (root ∷ []) order → All (Leads ways root) order
walk_reached ways root order free v = λ k d h. from (get_or order k d) ((walked ways [] (root ∷ []) order free v (no_module)).reached (get_or order k d) (Contains-get_or order k d h))
  where
    from : (x : ℕ) → Contains [] x ⊎ ((r : ℕ) × Contains (root ∷ []) r × Leads ways r x) → Leads ways root x
    from x (inl (k, h, e)) = absurd (omega (arith, h))
    from x (inr (r, (k, h, e), l)) = subst (λ y. Leads ways y x) (is_root k r h e) l
      where
        is_root : (k r : ℕ) → k < 1 → get_or (root ∷ []) k r ≡ r → r ≡ root
        is_root zero r h e = sym e
        is_root (suc k) r h e = absurd (omega (arith, h))

cons_split : (x y : ℕ) (xs ys : List ℕ) → x ∷ xs ≡ y ∷ ys → (x ≡ y) × (xs ≡ ys)
cons_split x y xs ys e = (ap first e, ap others e)
  where
    first : List ℕ → ℕ
    first [] = 0
    first (z ∷ zs) = z

    others : List ℕ → List ℕ
    others [] = []
    others (z ∷ zs) = zs

nothing_more : (ways : List (List Way)) (before todo order : List ℕ) → todo ≡ [] → Visits ways before todo order → order ≡ before
nothing_more ways before todo order none (visited b) = refl
nothing_more ways before todo order none (again b r a m c v) = absurd (let n = ap length none in omega (arith, n))
nothing_more ways before todo order none (first_time b t r a m new v w) = absurd (let n = ap length none in omega (arith, n))

ends_with : (ways : List (List Way)) (before todo order : List ℕ) (root : ℕ) → todo ≡ root ∷ [] → before ≡ [] → Visits ways before todo order → (front : List ℕ) × (order ≡ front ++ root ∷ [])
ends_with ways before todo order root is none (visited b) = absurd (let n = ap length is in omega (arith, n))
ends_with ways before todo order root is none (again b r a m c v) = absurd (let n = ap length none in let h = c.1 in omega (arith, n, h))
ends_with ways before todo order root is none (first_time b t r a m new v w) =
    let p = cons_split m root r [] is in
    (t, nothing_more ways (t ++ m ∷ []) r order p.1 w ∙ ap (λ x. t ++ x ∷ []) p.0)

pub walk_ends : (ways : List (List Way)) (root : ℕ) (order : List ℕ) → Visits ways [] (root ∷ []) order → (front : List ℕ) × (order ≡ front ++ root ∷ [])
walk_ends ways root order v = ends_with ways [] (root ∷ []) order root refl refl v
