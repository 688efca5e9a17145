-- The first entry of a branch, with other entries in its place.
use Rattle.std.proofs.Common.{ℕ, List, [], ◌∷◌, ◌++◌, map, refl, inl, inr}
use Rattle.std.specs.Prelude.{◌⊎◌}
use Rattle.lp_calculus.specs.Types.{Ty}
use Rattle.lp_lemmas.specs.Each.{EachOf}
use Rattle.lp_lemmas.proofs.Each.{each_append}
use Rattle.lp_model.specs.Pair.{Closing}
use Rattle.lp_model.specs.Flat.{Written, Goal, Clause}
use Rattle.lp_model.specs.Branch.{Entry, Branch, Go, entries}
use Rattle.lp_model.specs.Answers.{Query, Variable, Instance, AnswerTyping, Closes}
use Rattle.lp_model.specs.Proofs.{Declared, Leaves}
use Rattle.lp_model.specs.Search.{with_goals}
use Rattle.lp_search_laws.specs.Branches.{IsTypedEntry, AreTypedEntries, IsPlainEntry, ArePlainEntries, EntryHolds, AreProved, BranchTyping, IsTypedBranch, SolvesBranch, going}
use Rattle.lp_search_laws.specs.Given.{IsPut, IsInPlace}
use Rattle.lp_search_laws.specs.Views.{StandFor}
use Rattle.lp_search_laws.specs.Written.{IsWrittenGoal, IsWrittenPlace, IsWrittenEntry}

pub typed_append : (d : Declared) (V : List Variable) (Fs Es : List (List Ty)) (fs es : List Entry) → AreTypedEntries d V Fs fs → AreTypedEntries d V Es es → AreTypedEntries d V (Fs ++ Es) (fs ++ es)
typed_append d V [] Es [] es h k = k
typed_append d V [] Es (f ∷ fs) es h k = absurd h
typed_append d V (F ∷ Fs) Es [] es h k = absurd h
typed_append d V (F ∷ Fs) Es (f ∷ fs) es h k = (h.0, typed_append d V Fs Es fs es h.1 k)

pub plain_append : (k : ℕ) (Fs Es : List (List Ty)) (fs es : List Entry) → ArePlainEntries k Fs fs → ArePlainEntries k Es es → ArePlainEntries k (Fs ++ Es) (fs ++ es)
plain_append k [] Es [] es h g = g
plain_append k [] Es (f ∷ fs) es h g = absurd h
plain_append k (F ∷ Fs) Es [] es h g = absurd h
plain_append k (F ∷ Fs) Es (f ∷ fs) es h g = (h.0, plain_append k Fs Es fs es h.1 g)

pub proved_append : (L : Leaves) (d : Declared) (P : List Clause) (c : Closing) (Fs Es : List (List Ty)) (fs es : List Entry) → AreProved L d P c Fs fs → AreProved L d P c Es es → AreProved L d P c (Fs ++ Es) (fs ++ es)
proved_append L d P c [] Es [] es h k = k
proved_append L d P c [] Es (f ∷ fs) es h k = absurd h
proved_append L d P c (F ∷ Fs) Es [] es h k = absurd h
proved_append L d P c (F ∷ Fs) Es (f ∷ fs) es h k = (h.0, proved_append _ d P c Fs Es fs es h.1 k)

pub proved_split : (L : Leaves) (d : Declared) (P : List Clause) (c : Closing) (V : List Variable) (Fs Es : List (List Ty)) (fs es : List Entry) → AreTypedEntries d V Fs fs → AreProved L d P c (Fs ++ Es) (fs ++ es) → AreProved L d P c Fs fs × AreProved L d P c Es es
proved_split L d P c V [] Es [] es t h = (tt, h)
proved_split L d P c V [] Es (f ∷ fs) es t h = absurd t
proved_split L d P c V (F ∷ Fs) Es [] es t h = absurd t
proved_split L d P c V (F ∷ Fs) Es (f ∷ fs) es t h = let r = proved_split _ d P c V Fs Es fs es t.1 h.1 in ((h.0, r.0), r.1)

-- entries that may stand in the place of one
pub record MayStand (d : Declared) (V : List Variable) (k : ℕ) (Fs : List (List Ty)) (fs : List Entry) : Type 0 where
  pub typed : AreTypedEntries d V Fs fs
  pub plain : ArePlainEntries k Fs fs
  pub written : EachOf IsWrittenEntry fs

module _ (n : ℕ) (d : Declared) (P : List Clause) (q : Query) (z : AnswerTyping) (b : Branch) (E : List Ty) (Es : List (List Ty)) (e : Entry) (es : List Entry) where
  abbrev pub Typings : List (List Ty) → BranchTyping
  Typings Fs = record { answer = z; eigens = Fs }

  abbrev pub Typed : Type 0
  Typed = IsTypedBranch n d q (Typings (E ∷ Es)) (with_goals b (e ∷ es))

  pub branch_stays : Typed → (Fs : List (List Ty)) (fs : List Entry) → MayStand d z.variables b.next_type Fs fs → IsTypedBranch n d q (Typings (Fs ++ Es)) (with_goals b (fs ++ es))
  branch_stays h Fs fs m = record {
    answer = h.answer;
    entries = typed_append d z.variables Fs Es fs es m.typed h.entries.1;
    variables = h.variables;
    types = h.types;
    values = h.values;
    pairs = h.pairs;
    goals = plain_append b.next_type Fs Es fs es m.plain h.goals.1;
    written = each_append IsWrittenEntry fs es m.written h.written.1;
    stuck = h.stuck;
  }

module _ (n : ℕ) (d : Declared) (P : List Clause) (q : Query) (z : AnswerTyping) (b : Branch) (E : List Ty) (Es : List (List Ty)) (e : Entry) (es : List Entry) where
  abbrev pub Solved : Leaves → Instance → Type 0
  Solved L i = SolvesBranch L d P q i (Typings n d P q z b E Es e es (E ∷ Es)) (with_goals b (e ∷ es))

  goes_on : {L : Leaves} (i : Instance) (Fs : List (List Ty)) (fs : List Entry) (s : Solved L i) → AreProved L d P s.answer.closing Fs fs → SolvesBranch L d P q i (Typings n d P q z b E Es e es (Fs ++ Es)) (with_goals b (fs ++ es))
  goes_on {L} i Fs fs s p = record { query = s.query; answer = s.answer; proved = proved_append _ d P s.answer.closing Fs Es fs es p s.proved.1 }

  comes_back : {L : Leaves} (i : Instance) (Fs : List (List Ty)) (fs : List Entry) → AreTypedEntries d z.variables Fs fs →
      (s : SolvesBranch L d P q i (Typings n d P q z b E Es e es (Fs ++ Es)) (with_goals b (fs ++ es))) →
      ((c : Closing) → Closes d z.variables c → AreProved L d P c Fs fs → EntryHolds L d P c E e) → Solved L i
  comes_back {L} i Fs fs t s f =
      let r = proved_split _ d P s.answer.closing z.variables Fs Es fs es t s.proved in
      record { query = s.query; answer = s.answer; proved = (f s.answer.closing s.answer.closes r.0, r.1) }

  in_front : (Fs : List (List Ty)) (fs : List Entry) → IsPut n e.goal E z.variables z.variables fs Fs → IsInPlace n e.goal z E Es es (with_goals b (e ∷ es)) (Typings n d P q z b E Es e es (Fs ++ Es)) (with_goals b (fs ++ es))
  in_front Fs fs x = record { front = fs; types = Fs; goals = refl; eigens = refl; put = x; pairs = refl; found = (refl, refl, refl) }

  -- one alternative
  pub stands_one : {L : Leaves} → Typed n d P q z b E Es e es → (Fs : List (List Ty)) (fs : List Entry) → MayStand d z.variables b.next_type Fs fs → IsPut n e.goal E z.variables z.variables fs Fs →
      ((c : Closing) → Closes d z.variables c → (EntryHolds L d P c E e → AreProved L d P c Fs fs) × (AreProved L d P c Fs fs → EntryHolds L d P c E e)) → StandFor L n d P q (going (Typings n d P q z b E Es e es (E ∷ Es)) (with_goals b (e ∷ es))) (Go (with_goals b (fs ++ es)) ∷ [])
  stands_one {L} h Fs fs m x f = record {
    typed = going (Typings n d P q z b E Es e es (Fs ++ Es)) (with_goals b (fs ++ es)) ∷ [];
    is = refl;
    ok = (branch_stays n d P q z b E Es e es h Fs fs m, tt);
    given = (inl (in_front Fs fs x), tt);
    keeps = λ i s. inl (goes_on i Fs fs s ((f s.answer.closing s.answer.closes).0 s.proved.0));
    gives = λ i s. elim s [ inl x ↦ comes_back i Fs fs m.typed x (λ c l p. (f c l).1 p) | inr x ↦ absurd x ];
  }

  -- two of them
  pub stands_two : {L : Leaves} → Typed n d P q z b E Es e es → (Fs Gs : List (List Ty)) (fs gs : List Entry) → MayStand d z.variables b.next_type Fs fs → MayStand d z.variables b.next_type Gs gs → IsPut n e.goal E z.variables z.variables fs Fs → IsPut n e.goal E z.variables z.variables gs Gs →
      ((c : Closing) → Closes d z.variables c → (EntryHolds L d P c E e → AreProved L d P c Fs fs ⊎ AreProved L d P c Gs gs) × (AreProved L d P c Fs fs ⊎ AreProved L d P c Gs gs → EntryHolds L d P c E e)) →
      StandFor L n d P q (going (Typings n d P q z b E Es e es (E ∷ Es)) (with_goals b (e ∷ es))) (Go (with_goals b (fs ++ es)) ∷ Go (with_goals b (gs ++ es)) ∷ [])
  stands_two {L} h Fs Gs fs gs m l x y f = record {
    typed = going (Typings n d P q z b E Es e es (Fs ++ Es)) (with_goals b (fs ++ es)) ∷ going (Typings n d P q z b E Es e es (Gs ++ Es)) (with_goals b (gs ++ es)) ∷ [];
    is = refl;
    ok = (branch_stays n d P q z b E Es e es h Fs fs m, (branch_stays n d P q z b E Es e es h Gs gs l, tt));
    given = (inl (in_front Fs fs x), (inl (in_front Gs gs y), tt));
    keeps = λ i s. elim ((f s.answer.closing s.answer.closes).0 s.proved.0) [ inl p ↦ inl (goes_on i Fs fs s p) | inr p ↦ inr (inl (goes_on i Gs gs s p)) ];
    gives = λ i s. elim s [
      | inl x ↦ comes_back i Fs fs m.typed x (λ c r p. (f c r).1 (inl p))
      | inr w ↦ elim w [ inl x ↦ comes_back i Gs gs l.typed x (λ c r p. (f c r).1 (inr p)) | inr x ↦ absurd x ]
    ];
  }

-- goals of one place
abbrev pub each_at : List Ty → List Goal → List (List Ty)
each_at E gs = map (λ g. E) gs

pub entries_hold : (L : Leaves) (d : Declared) (P : List Clause) (c : Closing) (E : List Ty) (A : List Clause) (W : Written) (level mark : ℕ) (gs : List Goal) →
    EachOf (λ g. EntryHolds L d P c E (record { goal = g; assumed = A; written = W; level = level; mark = mark })) gs → AreProved L d P c (each_at E gs) (entries gs A W level mark)
entries_hold L d P c E A W l m [] h = tt
entries_hold L d P c E A W l m (g ∷ gs) h = (h.0, entries_hold _ d P c E A W l m gs h.1)

pub hold_entries : (L : Leaves) (d : Declared) (P : List Clause) (c : Closing) (E : List Ty) (A : List Clause) (W : Written) (level mark : ℕ) (gs : List Goal) →
    AreProved L d P c (each_at E gs) (entries gs A W level mark) → EachOf (λ g. EntryHolds L d P c E (record { goal = g; assumed = A; written = W; level = level; mark = mark })) gs
hold_entries L d P c E A W l m [] h = tt
hold_entries L d P c E A W l m (g ∷ gs) h = (h.0, hold_entries _ d P c E A W l m gs h.1)

pub entries_stand : (d : Declared) (V : List Variable) (k : ℕ) (E : List Ty) (A : List Clause) (W : Written) (level mark : ℕ) (gs : List Goal) →
    EachOf (λ g. IsTypedEntry d V E (record { goal = g; assumed = A; written = W; level = level; mark = mark })) gs → EachOf
    (λ g. IsPlainEntry k E (record { goal = g; assumed = A; written = W; level = level; mark = mark })) gs → IsWrittenPlace A W → EachOf
    IsWrittenGoal gs → MayStand d V k (each_at E gs) (entries gs A W level mark)
entries_stand d V k E A W l m [] t p a w = record { typed = tt; plain = tt; written = tt }
entries_stand d V k E A W l m (g ∷ gs) t p a w = let r = entries_stand d V k E A W l m gs t.1 p.1 a w.1 in record { typed = (t.0, r.typed); plain = (p.0, r.plain); written = (record { goal = w.0; place = a }, r.written) }
