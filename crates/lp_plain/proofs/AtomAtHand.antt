-- The atom in front, as a term of the bank: of a clause of the table under its values, or of a frame.
use Rattle.std.proofs.Common.{◌≡◌, ℕ, ◌<◌, List, ◌∷◌, ◌++◌, length, take, drop, refl, sym, ap, ◌∙◌, subst, arith, Bool, Option, None, Some}
use Rattle.std.specs.Prelude.{slice_get}
use Rattle.std.proofs.lemmas.List.{take-append-drop, take_all}
use Rattle.lp_calculus.specs.Instance.{instance_term}
use Rattle.lp_calculus.specs.Term.{Term}
use Rattle.lp_term.specs.Nodes.{Nodes, tree}
use Rattle.lp_term.specs.Spine.{LooseBelow}
use Rattle.lp_term.specs.declared.node.TermId.{TermId}
use Rattle.lp_model.specs.Branch.{Branch, Entry, Task}
use Rattle.lp_model.specs.Flat.{Goal, Atomic, Cut, Either, Exists, Forall, Assume, Not}
use Rattle.lp_model.specs.Index.{instantiate}
use Rattle.lp_model.specs.Skeleton.{State}
use Rattle.lp_plain.specs.declared.frame.Frame.{Frame}
use Rattle.lp_plain.specs.declared.frame.Place.{Place}
use Rattle.lp_plain.specs.declared.frame.Todo.{Todo}
use Rattle.lp_plain.specs.declared.machine.Machine.{Machine}
use Rattle.lp_plain.specs.declared.scope.Scopes.{Scopes}
use Rattle.lp_plain.specs.declared.table.Flat.{Flat}
use Rattle.lp_plain.specs.declared.table.Span.{Span}
use Rattle.lp_plain.specs.Assuming.{IsPlaceAt, lists_of}
use Rattle.lp_plain.specs.AtRunTime.{AreWrittenGoals, IsAtom, IsAtomFirst, IsAtTerm, IsWrittenFlat}
use Rattle.lp_plain.specs.Entries.{Around, AreAt, AreEntries, KeepsGoals, no_frame, a_frame, AreTodo, Reads, entry_at, placed}
use Rattle.lp_plain.specs.HeadLooks.{OnlyBank}
use Rattle.lp_plain.specs.Instances.{AreValues, values_of}
use Rattle.lp_plain.specs.Moving.{IsAtGoal, IsState, Query}
use Rattle.lp_plain.specs.Renewal.{renewing}
use Rattle.lp_plain.specs.Scopes.{Holds, IsScope, blocks_of}
use Rattle.lp_plain.specs.Tables.{IsGoal, Never, Shown, shown}
use Rattle.lp_plain.specs.Taking.{goal_in}
use Rattle.lp_plain.specs.Within.{IsTodoIn, StandsIn}
use Rattle.lp_plain.specs.Written.{IsWritten, WrittenAtom}
use Rattle.lp_plain.specs.WrittenSearch.{IsWrittenSearch}
use Rattle.lp_plain.specs.WrittenTable.{IsWrittenIn, IsWrittenTodo, WrittenFlat, WrittenGoals, an_atom, a_cut, a_choice, a_some, an_all, an_assume, a_not, no_goal, a_goal}
use Rattle.lp_plain.proofs.Frames.{frames_more}
use Rattle.lp_plain.proofs.Growing.{reads_later, scope_all}
use Rattle.lp_plain.proofs.LookedOn.{bank_goals, place_later}
use Rattle.lp_plain.proofs.OwnValues.{one_read}
use Rattle.lp_plain.proofs.TrialPairs.{at_read}
use Rattle.lp_plain.proofs.TrialParts.{within_loose}
use Rattle.lp_plain.proofs.TrialsFound.{one_agrees, one_scope}
use Rattle.lp_plain.proofs.Within.{all_at}

-- what the table has of an atom
atom_written : {bs : List Bool} {f : Flat} (b : Nodes) (t : Shown) (ar : ℕ → ℕ) (k d : ℕ) (u : TermId) → f ≡ Flat.Atom u → d ≡ length bs → WrittenFlat b t ar k bs f → IsWritten ar k d (tree b u.0)
atom_written {bs} b t ar k d u e q (an_atom v z w) =
    let y : v ≡ u = (let x : Flat.Atom v ≡ Flat.Atom u = sym z ∙ e in cc) in
    subst (λ i. IsWritten ar k i (tree b u.0)) (sym q) (subst (λ (x : TermId). IsWritten ar k (length bs) (tree b x.0)) y w)
atom_written b t ar k d u e q (a_cut z) = absurd (cc)
atom_written b t ar k d u e q (a_choice l r z w x) = absurd (cc)
atom_written b t ar k d u e q (a_some l z w) = absurd (cc)
atom_written b t ar k d u e q (an_all l z w) = absurd (cc)
atom_written b t ar k d u e q (an_assume s l i z w x) = absurd (cc)
atom_written b t ar k d u e q (a_not l i z w) = absurd (cc)

whole_scope : (s : Scopes) (o : Option ℕ) (vs : List TermId) → Holds s.values.items s.blocks.items o vs → IsScope s (length s.blocks.items) (length s.values.items) o vs
whole_scope s o vs h =
    let p = take_all (length s.values.items) s.values.items (omega arith) in
    let q = take_all (length s.blocks.items) s.blocks.items (omega arith) in
    subst (λ x. Holds x (take (length s.blocks.items) s.blocks.items) o vs) (sym p) (subst (λ x. Holds s.values.items x o vs) (sym q) h)

-- an atom of the table, under its values
module _ (m n : Machine) (b : OnlyBank m n) (p : Place) (u id : TermId) (within : id.0 < length n.bank.terms)
    (made : (nb nv : ℕ) → (vs : List TermId) → IsScope m.scopes nb nv p.values.scope vs → AreValues m.bank vs → (ar : ℕ → ℕ) → (k : ℕ) → IsWritten ar k (length vs) (tree m.bank u.0) →
    tree n.bank id.0 ≡ instantiate (values_of m.bank vs) (instance_term (renewing p.values.types) (tree m.bank u.0)))
    (a : Around) (o : Option ℕ) (raw : Branch) (st : StandsIn m) (at : IsAtGoal m a p (Flat.Atom u) o raw) (ar : ℕ → ℕ) (w : IsWrittenFlat m ar p (Flat.Atom u)) where
  written : IsWritten ar w.type_vars (length w.values) (tree m.bank u.0)
  written = atom_written m.bank (shown m.table) ar w.type_vars (length w.values) u refl w.have.many w.is

  instance_is : tree n.bank id.0 ≡ instantiate at.values (instance_term (renewing p.values.types) (tree m.bank u.0))
  instance_is =
      let same = one_scope m.scopes.values.items m.scopes.blocks.items p.values.scope at.at.0 w.values at.at.1 w.scope_holds in
      made (length m.scopes.blocks.items) (length m.scopes.values.items) w.values (whole_scope m.scopes p.values.scope w.values w.scope_holds)
      (scope_all (λ (t : TermId). (t.0 < length m.bank.terms) × LooseBelow 0 0 (tree m.bank t.0)) m.scopes.values.items m.scopes.blocks.items p.values.scope w.values st.values w.scope_holds) ar w.type_vars written ∙
      one_agrees (renewing p.values.types) (length w.values) (values_of m.bank w.values) at.values (λ i l. at_read m.bank w.values at.values (subst (λ vs. AreAt m.bank vs at.values) same at.at.2) i l) (tree m.bank u.0)
      (within_loose (WrittenAtom ar w.type_vars) (length w.values) 0 (length w.values) (tree m.bank u.0) (omega arith) written)

  by_goal : (g : Goal) → IsGoal m.bank Never (shown m.table) (Flat.Atom u) g → raw.goals ≡ entry_at a p (goal_in at.values p.values.types g) ∷ at.rest → IsAtTerm n a p id o raw
  by_goal (Atomic t) i e =
      let same : u ≡ i.0 = (let z : Flat.Atom u ≡ Flat.Atom i.0 = i.1 in cc) in
      let is : instance_term (renewing p.values.types) (tree m.bank u.0) ≡ instance_term (renewing p.values.types) t = ap (λ x. instance_term (renewing p.values.types) (tree m.bank x.0)) same ∙ ap (instance_term (renewing p.values.types)) i.2 in
      record {
        value = instantiate at.values (instance_term (renewing p.values.types) t);
        rest = at.rest;
        place = place_later m n b a p st at.place;
        within = within;
        heads = (0, omega arith, ap Some (instance_is ∙ ap (instantiate at.values) is));
        reads = reads_later m n st (bank_goals m n b) a o at.rest at.reads;
        goals = e;
      }
  by_goal Cut i e = absurd (cc)
  by_goal (Either gs hs) i e = absurd (let z = i.2 in cc)
  by_goal (Exists T gs) i e = absurd (let z = i.1 in cc)
  by_goal (Forall T gs) i e = absurd (let z = i.1 in cc)
  by_goal (Assume v cs gs) i e = absurd (let z = i.3 in cc)
  by_goal (Not v gs) i e = absurd (let z = i.2 in cc)

  pub instance_at : IsAtTerm n a p id o raw
  instance_at = by_goal at.goal at.is at.goals

-- what the table has of other goals is no atom
not_apart : (b : Nodes) (t : Shown) (flat : Flat) (at : ℕ → Term) (p : Place) (g : Goal) → IsGoal b Never t flat g → ((u : TermId) → flat ≡ Flat.Atom u → ⊥) → IsAtom (goal_in at p.values.types g) → ⊥
not_apart b t flat at p (Atomic u) i n k = n i.0 i.1
not_apart b t flat at p Cut i n k = k
not_apart b t flat at p (Either gs hs) i n k = k
not_apart b t flat at p (Exists T gs) i n k = k
not_apart b t flat at p (Forall T gs) i n k = k
not_apart b t flat at p (Assume w cs gs) i n k = k
not_apart b t flat at p (Not w gs) i n k = k

pub no_atom_first : (m : Machine) (a : Around) (p : Place) (flat : Flat) (o : Option ℕ) (raw : Branch) → IsAtGoal m a p flat o raw → ((u : TermId) → flat ≡ Flat.Atom u → ⊥) → IsAtomFirst raw.goals → ⊥
no_atom_first m a p flat o raw at n k = not_apart m.bank (shown m.table) flat at.values p at.goal at.is n (subst IsAtomFirst at.goals k)

-- the first of the goals is written where all are
pub first_written : (m : Machine) (ar : ℕ → ℕ) (p : Place) (s : Span) (flat : Flat) → slice_get m.table.goals.items s.from ≡ Some flat → s.from < s.to → AreWrittenGoals m ar p s → IsWrittenFlat m ar p flat
first_written m ar p s flat got l w =
    record { type_vars = w.type_vars; binders = w.binders; values = w.values; scope_holds = w.scope_holds; have = w.have; is = go w.is }
  where
    go : WrittenGoals m.bank (shown m.table) ar w.type_vars w.binders s.from s.to → WrittenFlat m.bank (shown m.table) ar w.type_vars w.binders flat
    go (no_goal e) = absurd (omega (arith, l, e))
    go (a_goal f e i h) = subst (WrittenFlat m.bank (shown m.table) ar w.type_vars w.binders) (one_read m.table.goals.items s.from f flat e got) i

pub goals_written : (m : Machine) (number : ℕ) (f : Frame) → slice_get m.frames.items number ≡ Some f → (span : Span) → f.todo ≡ Todo.Goals span → (ar : ℕ → ℕ) → IsWrittenSearch m ar → AreWrittenGoals m ar f.place span
goals_written m number f got span t ar w =
    subst (IsWrittenTodo m.bank (shown m.table) ar (blocks_of m.scopes) f.place.values.scope) t
    (all_at (λ (x : Frame). IsWrittenTodo m.bank (shown m.table) ar (blocks_of m.scopes) x.place.values.scope x.todo) m.frames.items number f got w.at_work.goals)

-- the frame in front
module _ (qv : Query) (m : Machine) (s : State Task) (h : IsState qv m s) (number : ℕ) (f : Frame) (front : m.branch.goals ≡ Some number) (got : slice_get m.frames.items number ≡ Some f) where
  pub frame_written : (span : Span) → f.todo ≡ Todo.Goals span → (ar : ℕ → ℕ) → IsWrittenSearch m ar → AreWrittenGoals m ar f.place span
  frame_written span t ar w = goals_written m number f got span t ar w

  pub term_at : (u : TermId) → f.todo ≡ Todo.Term u → IsAtTerm m h.around f.place u f.behind h.raw
  term_at u t = go (subst (λ o. Reads m h.around o h.raw.goals) front h.goals)
    where
      go : Reads m h.around (Some number) h.raw.goals → IsAtTerm m h.around f.place u f.behind h.raw
      go (no_frame q z) = absurd (cc)
      go (a_frame i g gs rest q x w r z) =
          let n : number ≡ i = cc in
          let same : g ≡ f = (let y : Some g ≡ Some f = sym x ∙ ap (slice_get m.frames.items) (sym n) ∙ got in cc) in
          let todo : AreTodo m.bank (shown m.table) (blocks_of m.scopes) f.place (Todo.Term u) gs =
          subst (λ x. AreTodo m.bank (shown m.table) (blocks_of m.scopes) f.place x gs) t (subst (λ (x : Frame). AreTodo m.bank (shown m.table) (blocks_of m.scopes) x.place x.todo gs) same w) in
          record {
            value = todo.0;
            rest = rest;
            place = all_at (λ (f : Frame). IsPlaceAt (lists_of m) h.around f.place) m.frames.items number f got h.running.placed;
            within = subst (IsTodoIn (length m.bank.terms)) t (all_at (λ (f : Frame). IsTodoIn (length m.bank.terms) f.todo) m.frames.items number f got h.running.above.done.stands.frames);
            heads = todo.1;
            reads =
                subst (λ fs. AreEntries m.bank (shown m.table) (blocks_of m.scopes) h.around fs f.behind rest) (take-append-drop i m.frames.items)
                (frames_more m.bank (shown m.table) (blocks_of m.scopes) h.around (take i m.frames.items) (drop i m.frames.items)
                (subst (λ (x : Frame). AreEntries m.bank (shown m.table) (blocks_of m.scopes) h.around (take i m.frames.items) x.behind rest) same r));
            goals = z ∙ ap (λ (x : Frame). placed h.around x.place gs ++ rest) same ∙ ap (λ l. placed h.around f.place l ++ rest) todo.2;
          }

-- no goal is left
pub none_atom : (qv : Query) (m : Machine) (s : State Task) (h : IsState qv m s) → m.branch.goals ≡ None → IsAtomFirst h.raw.goals → ⊥
none_atom qv m s h e = go e h.goals
  where
    go : {o : Option ℕ} {es : List Entry} → o ≡ None → Reads m h.around o es → IsAtomFirst es → ⊥
    go e (no_frame q z) k = subst IsAtomFirst z k
    go e (a_frame i g gs rest q x w r z) k = absurd (cc)

-- what is written stays so where a frame comes
pub flat_framed : (m q : Machine) → KeepsGoals m q → (ar : ℕ → ℕ) (p : Place) (f : Flat) → IsWrittenFlat m ar p f → IsWrittenFlat q ar p f
flat_framed m q k ar p f w =
    subst (λ b. IsWrittenIn b (blocks_of q.scopes) p.values.scope (λ i bs. WrittenFlat b (shown q.table) ar i bs f)) (sym k.known.bank)
    (subst (λ t. IsWrittenIn m.bank (blocks_of q.scopes) p.values.scope (λ i bs. WrittenFlat m.bank (shown t) ar i bs f)) (sym k.known.table)
    (subst (λ x. IsWrittenIn m.bank (blocks_of x) p.values.scope (λ i bs. WrittenFlat m.bank (shown m.table) ar i bs f)) (sym k.known.scopes) w))
