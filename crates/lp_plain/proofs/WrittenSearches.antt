-- A search stays written: by what is put, by alternatives, and where it goes back.
use Rattle.std.proofs.Common.{◌≡◌, ℕ, zero, suc, ◌<◌, ◌≤◌, Bool, true, List, [], ◌∷◌, ◌++◌, length, refl, sym, ap, ◌∙◌, subst, arith, Option, Some, inl, inr}
use Rattle.std.specs.Prelude.{All, ◌⊎◌, slice_get, take}
use Rattle.std.proofs.lemmas.List.{take-take, take_all}
use Rattle.std.proofs.lemmas.List.Elements.{All-cons, All-head, All-nil, All-tail, All-weaker}
use Rattle.lp_lemmas.proofs.Elements.{All_pushed}
use Rattle.lp_calculus.specs.Term.{atom, eigen}
use Rattle.lp_term.specs.Nodes.{Nodes, Extends, tree}
use Rattle.lp_term.specs.Spine.{LooseBelow}
use Rattle.lp_term.specs.declared.node.TermId.{TermId}
use Rattle.lp_pattern.specs.Growing.{GoesOn}
use Rattle.lp_pattern.proofs.Keeps.{goes_on_same}
use Rattle.lp_plain.specs.declared.table.Span.{Span}
use Rattle.lp_plain.specs.declared.choice.Choice.{Choice}
use Rattle.lp_plain.specs.declared.choice.Untried.{Untried}
use Rattle.lp_plain.specs.declared.frame.Frame.{Frame}
use Rattle.lp_plain.specs.declared.frame.Place.{Place}
use Rattle.lp_plain.specs.declared.frame.Todo.{Todo}
use Rattle.lp_plain.specs.declared.machine.Machine.{Machine}
use Rattle.lp_plain.specs.Assuming.{KeepsAssumed}
use Rattle.lp_plain.specs.Entries.{GrowsGoals, HasAlternative, KeepsGoals}
use Rattle.lp_plain.specs.Opening.{IsBoundBy}
use Rattle.lp_plain.specs.Restoring.{IsTaken}
use Rattle.lp_plain.specs.Scopes.{Blocks, blocks_at, blocks_of}
use Rattle.lp_plain.specs.Tables.{shown}
use Rattle.lp_plain.specs.Within.{IsTodoIn, StandsIn}
use Rattle.lp_plain.specs.WrittenSearch.{AreOlder, IsOlder, IsShut, IsWrittenAt, IsWrittenSearch, WritesList, WritesWhere}
use Rattle.lp_plain.specs.WrittenTable.{AreWritten, HaveBinders, IsWrittenClause, IsWrittenIn, IsWrittenTodo, PutsList, StandsWritten, WrittenList, a_list}
use Rattle.lp_plain.proofs.Alternatives.{taken_same}
use Rattle.lp_plain.proofs.Growing.{all_taken, grows_kept}
use Rattle.lp_plain.proofs.TableWritten.{list_goals}
use Rattle.lp_plain.proofs.Within.{longer_list}
use Rattle.lp_plain.proofs.WrittenGrows.{lists_written, older_written, todo_written}

-- an alternative, while lists only grow
alternative_written : (m n : Machine) → StandsIn m → GrowsGoals m n → GoesOn m.assumptions.items n.assumptions.items → (ar : ℕ → ℕ) (c : Choice) → IsWrittenAt m ar c → IsWrittenAt n ar c
alternative_written m n i g h ar c w =
    let k = c.lengths in
    let fs = taken_same k.frames m.frames.items n.frames.items g.frames w.frames in
    let xs = taken_same k.assumptions m.assumptions.items n.assumptions.items h w.assumptions in
    let bs = taken_same k.scopes.blocks m.scopes.blocks.items n.scopes.blocks.items g.blocks w.blocks in
    let vs = taken_same k.scopes.values m.scopes.values.items n.scopes.values.items g.values w.values in
    let s : Blocks = blocks_at k.scopes m.scopes in
    let now = lists_written m.bank n.bank g.bank m.table i.table s s (all_taken (λ (t : TermId). (t.0 < length m.bank.terms) × LooseBelow 0 0
    (tree m.bank t.0)) k.scopes.values m.scopes.values.items i.values)
    (goes_on_same s.blocks) (goes_on_same s.values) ar (take k.frames m.frames.items) (take k.assumptions m.assumptions.items)
    (all_taken (λ (f : Frame). IsTodoIn (length m.bank.terms) f.todo) k.frames m.frames.items i.frames) w.written in
    record {
      frames = longer m.frames.items n.frames.items g.frames w.frames;
      blocks = longer m.scopes.blocks.items n.scopes.blocks.items g.blocks w.blocks;
      values = longer m.scopes.values.items n.scopes.values.items g.values w.values;
      assumptions = longer m.assumptions.items n.assumptions.items h w.assumptions;
      written = subst (λ t. AreWritten n.bank (shown t) ar (blocks_at k.scopes n.scopes) (take k.frames n.frames.items) (take k.assumptions n.assumptions.items)) (sym g.table)
          (subst (λ ys. AreWritten n.bank (shown m.table) ar (blocks_at k.scopes n.scopes) (take k.frames n.frames.items) ys) (sym xs)
          (subst (λ ys. AreWritten n.bank (shown m.table) ar (blocks_at k.scopes n.scopes) ys (take k.assumptions m.assumptions.items)) (sym fs)
          (subst (λ ys. AreWritten n.bank (shown m.table) ar (record { blocks = take k.scopes.blocks n.scopes.blocks.items; values = ys })
          (take k.frames m.frames.items) (take k.assumptions m.assumptions.items)) (sym vs)
          (subst (λ ys. AreWritten n.bank (shown m.table) ar (record { blocks = ys; values = take k.scopes.values m.scopes.values.items })
          (take k.frames m.frames.items) (take k.assumptions m.assumptions.items)) (sym bs) now))));
    }
  where
    longer : {X : Type 0} (xs ys : List X) → GoesOn xs ys → {j : ℕ} → j ≤ length xs → j ≤ length ys
    longer xs ys g {j} l = let q = longer_list xs ys g in omega (arith, l, q)

alternatives_written : (m n : Machine) → StandsIn m → GrowsGoals m n → GoesOn m.assumptions.items n.assumptions.items → (ar : ℕ → ℕ)
    (cs : List Choice) → All (IsWrittenAt m ar) cs → All (IsWrittenAt n ar) cs
alternatives_written m n i g h ar = All-weaker (IsWrittenAt m ar) (IsWrittenAt n ar) (alternative_written m n i g h ar)

-- a search with the same alternatives
pub search_grows : (m n : Machine) → StandsIn m → GrowsGoals m n → GoesOn m.assumptions.items n.assumptions.items → n.choices.items ≡ m.choices.items
    → (ar : ℕ → ℕ) → StandsWritten n ar → IsWrittenSearch m ar → IsWrittenSearch n ar
search_grows m n i g h e ar now w = record {
  at_work = now;
  alternatives = subst (All (IsWrittenAt n ar)) (sym e) (alternatives_written m n i g h ar m.choices.items w.alternatives);
  older = subst AreOlder (sym e) w.older;
}

-- no frame and no assumption comes
pub same_lists : (m n : Machine) → StandsIn m → GrowsGoals m n → n.frames.items ≡ m.frames.items → n.assumptions.items ≡ m.assumptions.items → (ar : ℕ → ℕ) → StandsWritten m ar → StandsWritten n ar
same_lists m n i g e h ar w =
    subst (λ xs. AreWritten n.bank (shown n.table) ar (blocks_of n.scopes) n.frames.items xs) (sym h)
    (subst (λ fs. AreWritten n.bank (shown n.table) ar (blocks_of n.scopes) fs m.assumptions.items) (sym e) (older_written m n i g ar m.frames.items m.assumptions.items i.frames w))

pub goes_on_by : {X : Type 0} (xs ys : List X) → ys ≡ xs → GoesOn xs ys
goes_on_by xs ys e = subst (GoesOn xs) (sym e) (goes_on_same xs)

pub search_same : (m n : Machine) → StandsIn m → GrowsGoals m n → n.frames ≡ m.frames → KeepsAssumed m n → n.choices.items ≡ m.choices.items →
    (ar : ℕ → ℕ) → IsWrittenSearch m ar → IsWrittenSearch n ar
search_same m n i g e h c ar w =
    let a : n.assumptions.items ≡ m.assumptions.items = ap (λ v. v.items) h.assumptions in
    search_grows m n i g (goes_on_by m.assumptions.items n.assumptions.items a) c ar (same_lists m n i g (ap (λ v. v.items) e) a ar w.at_work) w

-- an alternative is put

older_than : (m : Machine) (ar : ℕ → ℕ) (d : Choice) → d.lengths.frames ≡ length m.frames.items → d.lengths.scopes.blocks ≡ length
    m.scopes.blocks.items → d.lengths.scopes.values ≡ length m.scopes.values.items →
    d.lengths.assumptions ≡ length m.assumptions.items → (cs : List Choice) → All (IsWrittenAt m ar) cs → AreOlder cs → AreOlder (cs ++ d ∷ [])
older_than m ar d f b v a [] w o = (All-nil (IsOlder d), tt)
older_than m ar d f b v a (c ∷ cs) w o =
    let h = All-head (IsWrittenAt m ar) c cs w in
    let one : IsOlder c d = record {
      frames = subst (λ k. c.lengths.frames ≤ k) (sym f) h.frames;
      blocks = subst (λ k. c.lengths.scopes.blocks ≤ k)
          (sym b) h.blocks;
      values = subst (λ k. c.lengths.scopes.values ≤ k) (sym v) h.values;
      assumptions = subst (λ k. c.lengths.assumptions ≤ k)
          (sym a) h.assumptions;
    } in
    (All_pushed (IsOlder c) (cs ++ d ∷ []) cs d refl o.0 one, older_than m ar d f b v a cs (All-tail (IsWrittenAt m ar) c cs w) o.1)

pub search_aside : (m n : Machine) (untried : Untried) → StandsIn m → KeepsGoals m n → n.frames ≡ m.frames → KeepsAssumed m n → HasAlternative m n
    untried → (ar : ℕ → ℕ) → IsWrittenSearch m ar → IsWrittenSearch n ar
search_aside m n untried i k e h d ar w =
    let g = grows_kept m n k in
    let a : n.assumptions.items ≡ m.assumptions.items = ap (λ v. v.items) h.assumptions in
    let ga = goes_on_by m.assumptions.items n.assumptions.items a in
    let c = d.choice in
    let here : IsWrittenAt m ar c = record {
      frames = omega (arith, d.frames);
      blocks = omega (arith, d.blocks);
      values = omega (arith, d.values);
      assumptions = omega (arith, d.assumptions);
      written = subst (λ ys. AreWritten m.bank (shown m.table) ar (blocks_at c.lengths.scopes m.scopes) (take c.lengths.frames m.frames.items) ys)
          (sym (whole c.lengths.assumptions m.assumptions.items d.assumptions))
          (subst (λ ys. AreWritten m.bank (shown m.table) ar (blocks_at c.lengths.scopes m.scopes) ys m.assumptions.items) (sym (whole c.lengths.frames m.frames.items d.frames))
          (subst (λ ys. AreWritten m.bank (shown m.table) ar (record { blocks = take c.lengths.scopes.blocks m.scopes.blocks.items; values = ys })
          m.frames.items m.assumptions.items) (sym (whole c.lengths.scopes.values m.scopes.values.items d.values))
          (subst (λ ys. AreWritten m.bank (shown m.table) ar (record { blocks = ys; values = m.scopes.values.items }) m.frames.items
          m.assumptions.items) (sym (whole c.lengths.scopes.blocks m.scopes.blocks.items d.blocks)) w.at_work)));
    } in
    record {
      at_work = same_lists m n i g (ap (λ v. v.items) e) a ar w.at_work;
      alternatives = All_pushed (IsWrittenAt n ar) n.choices.items m.choices.items c d.more
          (alternatives_written m n i g ga ar m.choices.items w.alternatives) (alternative_written m n i g ga ar c here);
      older = subst AreOlder (sym d.more) (older_than m ar c d.frames d.blocks d.values d.assumptions m.choices.items w.alternatives w.older);
    }
  where
    whole : {X : Type 0} (k : ℕ) (xs : List X) → k ≡ length xs → take k xs ≡ xs
    whole k xs q = take_all k xs (omega (arith, q))

-- a frame is put, or a list
pub search_frame : (m n : Machine) (f : Frame) → StandsIn m → KeepsGoals m n → KeepsAssumed m n → n.choices.items ≡ m.choices.items → n.frames.items ≡
    m.frames.items ++ f ∷ [] → IsTodoIn (length m.bank.terms) f.todo → (ar : ℕ → ℕ) →
    IsWrittenTodo m.bank (shown m.table) ar (blocks_of m.scopes) f.place.values.scope f.todo → IsWrittenSearch m ar → IsWrittenSearch n ar
search_frame m n f i k h c e l ar t w =
    let g = grows_kept m n k in
    let a : n.assumptions.items ≡ m.assumptions.items = ap (λ v. v.items) h.assumptions in
    let old = older_written m n i g ar m.frames.items m.assumptions.items i.frames w.at_work in
    let new = subst (λ y. IsWrittenTodo n.bank (shown y) ar (blocks_of n.scopes) f.place.values.scope f.todo) (sym g.table)
    (todo_written m.bank n.bank g.bank m.table i.table (blocks_of m.scopes) (blocks_of n.scopes) i.values g.blocks g.values ar f.place.values.scope f.todo l t) in
    search_grows m n i g (goes_on_by m.assumptions.items n.assumptions.items a) c ar (record {
      goals = All_pushed (λ (x : Frame). IsWrittenTodo n.bank (shown n.table) ar (blocks_of n.scopes) x.place.values.scope x.todo) n.frames.items m.frames.items f e old.goals new;
      clauses = subst (All (IsWrittenClause n.bank (shown n.table) ar (blocks_of n.scopes))) (sym a) old.clauses;
    }) w

pub search_list : (m n : Machine) (l : ℕ) (p : Place) (behind : Option ℕ) → KeepsGoals m n → KeepsAssumed m n → n.choices.items ≡ m.choices.items → PutsList m n l p behind → WritesList m n p [] l
search_list m n l p behind k h c puts ar i t w = by t.is
  where
    from : (s : Span) → slice_get m.table.lists.items l ≡ Some s →
        (n.frames.items ≡ m.frames.items) ⊎ ((s.from < s.to) × (n.frames.items ≡ m.frames.items ++ record { todo = Todo.Goals s; place = p; behind = behind } ∷ [])) → IsWrittenSearch n ar
    from s f (inl e) =
        let a : n.assumptions.items ≡ m.assumptions.items = ap (λ v. v.items) h.assumptions in
        search_grows m n i (grows_kept m n k) (goes_on_by m.assumptions.items n.assumptions.items a) c ar (same_lists m n i (grows_kept m n k) e a ar w.at_work) w
    from s f (inr (l1, e)) =
        search_frame m n (record { todo = Todo.Goals s; place = p; behind = behind }) i k h c e l1 ar
        (record {
          type_vars = t.type_vars;
          binders = t.binders;
          values = t.values;
          scope_holds = t.scope_holds;
          have = t.have;
          is = list_goals m.bank
              (shown m.table) ar t.type_vars t.binders l s t.is f;
        }) w

    by : WrittenList m.bank (shown m.table) ar t.type_vars t.binders l → IsWrittenSearch n ar
    by (a_list s f g) = from s f (puts s f)

-- inside one more variable
binders_more : (b : Nodes) (x : Bool) (bs : List Bool) (v : TermId) (vs : List TermId) → (x ≡ true → (j : ℕ) × (tree b v.0 ≡ atom (eigen j))) → HaveBinders b bs vs → HaveBinders b (x ∷ bs) (v ∷ vs)
binders_more b x bs v vs f h = record { many = (let q = h.many in omega (arith, q)); eigens = at }
  where
    at : (i : ℕ) → slice_get (x ∷ bs) i ≡ Some true → (w : TermId) × (j : ℕ) × (slice_get (v ∷ vs) i ≡ Some w) × (tree b w.0 ≡ atom (eigen j))
    at zero e = let q : x ≡ true = cc in let r = f q in (v, r.0, refl, r.1)
    at (suc i) e = h.eigens i e

pub bound_in : (m n : Machine) (p inner : Place) (v : TermId) → StandsIn m → IsBoundBy m n p inner v → (ar : ℕ → ℕ) (x : Bool) (l : ℕ) → (x ≡ true → (j : ℕ) × (tree m.bank v.0 ≡ atom (eigen j))) →
    IsWrittenIn m.bank (blocks_of m.scopes) p.values.scope (λ k bs. WrittenList m.bank (shown m.table) ar k (x ∷ bs) l) → IsWrittenIn n.bank
    (blocks_of n.scopes) inner.values.scope (λ k bs. WrittenList n.bank (shown n.table) ar k bs l)
bound_in m n p inner v i B ar x l f w = record {
  type_vars = w.type_vars;
  binders = x ∷ w.binders;
  values = v ∷ w.values;
  scope_holds = B.holds w.values w.scope_holds;
  have = subst (λ b. HaveBinders b (x ∷ w.binders) (v ∷ w.values)) (sym B.bank) (binders_more m.bank x w.binders v w.values f w.have);
  is = subst (λ t. WrittenList n.bank (shown t) ar w.type_vars (x ∷ w.binders) l) (sym B.grows.table) (subst (λ b. WrittenList b (shown m.table) ar w.type_vars (x ∷ w.binders) l) (sym B.bank) w.is);
}

-- the search goes back to an alternative

taken_holds : {X : Type 0} (j k : ℕ) (xs : List X) → j ≤ k → j ≤ length xs → j ≤ length (take k xs)
taken_holds zero k xs l h = omega arith
taken_holds (suc j) zero xs l h = absurd (omega (arith, l))
taken_holds (suc j) (suc k) [] l h = absurd (omega (arith, h))
taken_holds (suc j) (suc k) (x ∷ xs) l h = let q = taken_holds j k xs (omega (arith, l)) (omega (arith, h)) in omega (arith, q)

oldest : (cs : List Choice) (c : Choice) → AreOlder (cs ++ c ∷ []) → All (λ d. IsOlder d c) cs × AreOlder cs
oldest [] c o = (All-nil (λ (d : Choice). IsOlder d c), tt)
oldest (d ∷ cs) c o =
    let r = oldest cs c o.1 in
    (All-cons (λ (e : Choice). IsOlder e c) d cs (last_of cs o.0) r.0, (front_of cs o.0, r.1))
  where
    last_of : (es : List Choice) → All (IsOlder d) (es ++ c ∷ []) → IsOlder d c
    last_of [] a = All-head (IsOlder d) c [] a
    last_of (e ∷ es) a = last_of es (All-tail (IsOlder d) e (es ++ c ∷ []) a)

    front_of : (es : List Choice) → All (IsOlder d) (es ++ c ∷ []) → All (IsOlder d) es
    front_of [] a = All-nil (IsOlder d)
    front_of (e ∷ es) a = All-cons (IsOlder d) e es (All-head (IsOlder d) e (es ++ c ∷ []) a) (front_of es (All-tail (IsOlder d) e (es ++ c ∷ []) a))

pub search_back : (m n : Machine) (c : Choice) (rest : List Choice) → m.choices.items ≡ rest ++ c ∷ [] → IsTaken m n c rest → (ar : ℕ → ℕ) → IsWrittenSearch m ar → IsWrittenSearch n ar
search_back m n c rest e t ar w =
    let o = oldest rest c (subst AreOlder e w.older) in
    let a = each rest (subst (All (IsWrittenAt m ar)) e w.alternatives) in
    record {
      at_work = subst (λ b. AreWritten b (shown n.table) ar (blocks_of n.scopes) n.frames.items n.assumptions.items) (sym t.bank)
          (subst (λ y. AreWritten m.bank (shown y) ar (blocks_of n.scopes) n.frames.items n.assumptions.items) (sym t.table)
          (subst (λ xs. AreWritten m.bank (shown m.table) ar (blocks_of n.scopes) n.frames.items xs) (sym t.assumptions)
          (subst (λ fs. AreWritten m.bank (shown m.table) ar (blocks_of n.scopes) fs (take c.lengths.assumptions m.assumptions.items)) (sym t.frames)
          (subst (λ vs. AreWritten m.bank (shown m.table) ar (record { blocks = n.scopes.blocks.items; values = vs })
          (take c.lengths.frames m.frames.items) (take c.lengths.assumptions m.assumptions.items)) (sym t.values)
          (subst (λ bs. AreWritten m.bank (shown m.table) ar (record { blocks = bs; values = take c.lengths.scopes.values m.scopes.values.items })
          (take c.lengths.frames m.frames.items) (take c.lengths.assumptions m.assumptions.items)) (sym t.blocks)
          a.1.written)))));
      alternatives = subst (All (IsWrittenAt n ar)) (sym t.choices) (all_back rest o.0 a.0);
      older = subst AreOlder (sym t.choices) o.1;
    }
  where
    each : (cs : List Choice) → All (IsWrittenAt m ar) (cs ++ c ∷ []) → All (IsWrittenAt m ar) cs × IsWrittenAt m ar c
    each [] h = (All-nil (IsWrittenAt m ar), All-head (IsWrittenAt m ar) c [] h)
    each (d ∷ cs) h =
        let r = each cs (All-tail (IsWrittenAt m ar) d (cs ++ c ∷ []) h) in
        (All-cons (IsWrittenAt m ar) d cs (All-head (IsWrittenAt m ar) d (cs ++ c ∷ []) h) r.0, r.1)

    shorter : {X : Type 0} (j k : ℕ) (xs ys : List X) → ys ≡ take k xs → j ≤ k → j ≤ length xs → j ≤ length ys
    shorter j k xs ys q l h = subst (λ zs. j ≤ length zs) (sym q) (taken_holds j k xs l h)

    same : {X : Type 0} (j k : ℕ) (xs ys : List X) → ys ≡ take k xs → j ≤ k → take j ys ≡ take j xs
    same j k xs ys q l = ap (take j) q ∙ take-take j k xs l

    one_back : (d : Choice) → IsOlder d c → IsWrittenAt m ar d → IsWrittenAt n ar d
    one_back d l h =
        let k = d.lengths in
        record {
          frames = shorter k.frames c.lengths.frames m.frames.items n.frames.items t.frames l.frames h.frames;
          blocks = shorter k.scopes.blocks c.lengths.scopes.blocks m.scopes.blocks.items n.scopes.blocks.items t.blocks l.blocks h.blocks;
          values = shorter k.scopes.values c.lengths.scopes.values m.scopes.values.items n.scopes.values.items t.values l.values h.values;
          assumptions = shorter k.assumptions c.lengths.assumptions m.assumptions.items n.assumptions.items t.assumptions l.assumptions h.assumptions;
          written = subst (λ b. AreWritten b (shown n.table) ar (blocks_at k.scopes n.scopes) (take k.frames n.frames.items) (take k.assumptions n.assumptions.items)) (sym t.bank)
              (subst (λ y. AreWritten m.bank (shown y) ar (blocks_at k.scopes n.scopes) (take k.frames n.frames.items) (take k.assumptions n.assumptions.items)) (sym t.table)
              (subst (λ xs. AreWritten m.bank (shown m.table) ar (blocks_at k.scopes n.scopes) (take k.frames n.frames.items) xs)
              (sym (same k.assumptions c.lengths.assumptions m.assumptions.items n.assumptions.items t.assumptions l.assumptions))
              (subst (λ fs. AreWritten m.bank (shown m.table) ar (blocks_at k.scopes n.scopes) fs (take k.assumptions m.assumptions.items))
              (sym (same k.frames c.lengths.frames m.frames.items n.frames.items t.frames l.frames))
              (subst (λ vs. AreWritten m.bank (shown m.table) ar (record { blocks = take k.scopes.blocks n.scopes.blocks.items; values = vs })
              (take k.frames m.frames.items) (take k.assumptions m.assumptions.items))
              (sym (same k.scopes.values c.lengths.scopes.values m.scopes.values.items n.scopes.values.items t.values l.values))
              (subst (λ bs. AreWritten m.bank (shown m.table) ar (record { blocks = bs; values = take k.scopes.values m.scopes.values.items })
              (take k.frames m.frames.items) (take k.assumptions m.assumptions.items))
              (sym (same k.scopes.blocks c.lengths.scopes.blocks m.scopes.blocks.items n.scopes.blocks.items t.blocks l.blocks)) h.written)))));
        }

    all_back : (ds : List Choice) → All (λ d. IsOlder d c) ds → All (IsWrittenAt m ar) ds → All (IsWrittenAt n ar) ds
    all_back [] l h = All-nil (IsWrittenAt n ar)
    all_back (d ∷ ds) l h =
        All-cons (IsWrittenAt n ar) d ds (one_back d (All-head (λ (x : Choice). IsOlder x c) d ds l) (All-head (IsWrittenAt m ar) d ds h))
        (all_back ds (All-tail (λ (x : Choice). IsOlder x c) d ds l) (All-tail (IsWrittenAt m ar) d ds h))

-- a cut

older_taken : (k : ℕ) (cs : List Choice) → AreOlder cs → AreOlder (take k cs)
older_taken zero cs o = tt
older_taken (suc k) [] o = tt
older_taken (suc k) (c ∷ cs) o = (all_taken (IsOlder c) k cs o.0, older_taken k cs o.1)

pub search_cut : (m n : Machine) (k : ℕ) → StandsIn m → GrowsGoals m n → n.frames ≡ m.frames → KeepsAssumed m n → n.choices.items ≡ take k
    m.choices.items → (ar : ℕ → ℕ) → IsWrittenSearch m ar → IsWrittenSearch n ar
search_cut m n k i g f h e ar w =
    let a : n.assumptions.items ≡ m.assumptions.items = ap (λ v. v.items) h.assumptions in
    record {
      at_work = same_lists m n i g (ap (λ v. v.items) f) a ar w.at_work;
      alternatives = subst (All (IsWrittenAt n ar)) (sym e) (alternatives_written m n i g (goes_on_by m.assumptions.items n.assumptions.items a) ar
          (take k m.choices.items) (all_taken (IsWrittenAt m ar) k m.choices.items w.alternatives));
      older = subst AreOlder (sym e) (older_taken k m.choices.items w.older);
    }

-- terms that are put
pub shut_later : (m n : Machine) (u : TermId) → Extends m.bank n.bank → IsShut m.bank u → IsShut n.bank u
shut_later m n u x h = (let l = x.more_terms in let k = h.0 in omega (arith, k, l), subst (LooseBelow 0 0) (sym (x.same_terms u.0 h.0)) h.1)

pub search_term : (m n : Machine) (u : TermId) (p : Place) (behind : Option ℕ) → KeepsGoals m n → KeepsAssumed m n → n.choices.items ≡ m.choices.items
    → n.frames.items ≡ m.frames.items ++ record { todo = Todo.Term u; place = p; behind = behind } ∷ [] →
    WritesWhere m n (IsShut m.bank u)
search_term m n u p behind k h c e ar i s w = search_frame m n _ i k h c e s.0 ar s.1 w
