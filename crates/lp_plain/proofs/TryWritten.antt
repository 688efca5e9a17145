-- What stands in a table and in scopes stays written by a try: the frame that it puts has the clause's goals.
use Rattle.std.proofs.Common.{◌≡◌, ℕ, zero, suc, ◌+◌, ◌-◌, ◌<◌, ◌≤◌, Bool, true, List, [], ◌∷◌, ◌++◌, length, refl, sym, ap, ◌∙◌, subst, arith, Option, Some, None, inl, inr}
use Rattle.std.specs.Prelude.{◌⊎◌, All, slice_get}
use Rattle.lp_lemmas.proofs.Elements.{All_pushed}
use Rattle.lp_lemmas.proofs.Lists.{get_below}
use Rattle.lp_calculus.specs.Types.{Ty}
use Rattle.lp_calculus.specs.Term.{Term}
use Rattle.lp_term.specs.Nodes.{Nodes, tree}
use Rattle.lp_term.specs.declared.node.TermId.{TermId}
use Rattle.lp_plain.specs.declared.candidates.Candidate.{Candidate}
use Rattle.lp_plain.specs.declared.choice.Call.{Call}
use Rattle.lp_plain.specs.declared.frame.Frame.{Frame}
use Rattle.lp_plain.specs.declared.frame.Place.{Place}
use Rattle.lp_plain.specs.declared.frame.Todo.{Todo}
use Rattle.lp_plain.specs.declared.instance.Values.{Values}
use Rattle.lp_plain.specs.declared.machine.Machine.{Machine}
use Rattle.lp_plain.specs.declared.scope.Block.{Block}
use Rattle.lp_plain.specs.declared.table.Rule.{Rule}
use Rattle.lp_plain.specs.declared.table.Span.{Span}
use Rattle.lp_plain.specs.Assuming.{KeepsAssumed}
use Rattle.lp_plain.specs.Entries.{AreAt, GrowsGoals, KeepsGoals}
use Rattle.lp_plain.specs.Followed.{IsScopeFor, WritesOn}
use Rattle.lp_plain.specs.Scopes.{Holds, blocks_of, inside, outermost}
use Rattle.lp_plain.specs.Tables.{shown}
use Rattle.lp_plain.specs.Trials.{IsTrialOf}
use Rattle.lp_plain.specs.Unifying.{IsMore}
use Rattle.lp_plain.specs.WrittenTable.{HaveBinders, IsWrittenCandidate, IsWrittenClause, IsWrittenTodo, PutsList, StandsWritten, WrittenGoals, WrittenList, WrittenRule, a_rule, own_and}
use Rattle.lp_plain.proofs.Growing.{grows_kept, grows_then}
use Rattle.lp_plain.proofs.OwnValues.{one_read}
use Rattle.lp_plain.proofs.TableWritten.{got_below, list_goals, list_span, own_many}
use Rattle.lp_plain.proofs.TrialsFound.{one_scope}
use Rattle.lp_plain.proofs.TryScopes.{more_grows}
use Rattle.lp_plain.proofs.Within.{all_at}
use Rattle.lp_plain.proofs.WrittenGrows.{goals_later, older_written}
use Rattle.lp_plain.proofs.WrittenSearches.{goes_on_by, search_grows, search_same}

-- the binders around a clause behind its own variables
pub own_back : (n : ℕ) (bs : List Bool) (i : ℕ) → slice_get (own_and n bs) i ≡ Some true → (n ≤ i) × (slice_get bs (i - n) ≡ Some true)
own_back zero bs i e = let q : i ≡ i - 0 = omega arith in (omega arith, subst (λ k. slice_get bs k ≡ Some true) q e)
own_back (suc n) bs zero e = absurd (cc)
own_back (suc n) bs (suc i) e =
    let r = own_back n bs i e in
    let q : i - n ≡ suc i - suc n = omega arith in
    (omega (arith, r.0), subst (λ k. slice_get bs k ≡ Some true) q r.1)

own_binders : (b d : Nodes) (n : ℕ) (bs : List Bool) (outer ws : List TermId) (σ : ℕ → Term) → HaveBinders b bs outer → AreAt b outer σ → length ws ≡ n + length outer →
    ((i : ℕ) (v : TermId) → slice_get ws (n + i) ≡ Some v → tree d v.0 ≡ σ i) → HaveBinders d (own_and n bs) ws
own_binders b d n bs outer ws σ B a l f =
    let many : length ws ≡ length (own_and n bs) = l ∙ ap (λ k. n + k) B.many ∙ sym (own_many n bs) in
    record {
      many = many;
      eigens = λ i e.
          let r = own_back n bs i e in
          let g = B.eigens (i - n) r.1 in
          let q : i ≡ n + (i - n) = omega (arith, r.0) in
          let w = get_below ws i (subst (λ k. i < k) (sym many) (got_below (own_and n bs) i true e)) in
          (w.0, g.1, w.1, f (i - n) w.0 (subst (λ k. slice_get ws k ≡ Some w.0) q w.1) ∙ sym (a (i - n) g.0 g.2) ∙ g.3);
    }

none_outer : (vs : List TermId) (bs : List Block) (o : Option ℕ) (us : List TermId) → o ≡ None → Holds vs bs o us → us ≡ []
none_outer vs bs o us q (outermost e z) = z
none_outer vs bs o us q (inside i k xs f g l h y) = absurd (let r : None ≡ Some i = sym q ∙ f in cc)

-- what is around a clause that is tried, and the clause in it
module _ (m : Machine) (ar : ℕ → ℕ) (w : StandsWritten m ar) where
  abbrev IsAroundWritten : ℕ → List TermId → Type 0
  IsAroundWritten rule outer = (k : ℕ) × (bs : List Bool) × HaveBinders m.bank bs outer × WrittenRule m.bank (shown m.table) ar k bs rule

  around_written : (candidate : Candidate) (vs : List Ty) (h : Term) (values : Values) (σ : ℕ → Term) (T : IsTrialOf m candidate vs h values σ) →
      IsWrittenCandidate m ar candidate → IsAroundWritten T.rule T.outer
  around_written (Candidate.Assumed i) vs h values σ T c =
      let s = T.around in
      let W : IsWrittenClause m.bank (shown m.table) ar (blocks_of m.scopes) s.0 = all_at (IsWrittenClause m.bank (shown m.table) ar (blocks_of m.scopes)) m.assumptions.items i s.0 s.1 w.clauses in
      let same : W.written.values ≡ T.outer = one_scope m.scopes.values.items m.scopes.blocks.items s.0.values.scope W.written.values T.outer W.written.scope_holds
      (subst (λ v. Holds m.scopes.values.items m.scopes.blocks.items v.scope T.outer) s.3 T.scope) in (
        W.written.type_vars,
        W.written.binders,
        subst (HaveBinders m.bank W.written.binders) same W.written.have,
        subst
            (WrittenRule m.bank (shown m.table) ar W.written.type_vars W.written.binders) (sym s.2) W.written.is,
      )
  around_written (Candidate.Program i) vs h values σ T c =
      let s = T.around in
      let none : T.outer ≡ [] = none_outer m.scopes.values.items m.scopes.blocks.items values.scope T.outer s.1 T.scope in
      let B : HaveBinders m.bank [] [] = record { many = refl; eigens = λ j e. absurd (cc) } in
      (c.0, [], subst (HaveBinders m.bank []) (sym none) B, subst (WrittenRule m.bank (shown m.table) ar c.0 []) (sym s.0) c.1)

body_written : (b : Nodes) (m : Machine) (ar : ℕ → ℕ) (k : ℕ) (bs : List Bool) (rule : ℕ) (r : Rule) → slice_get m.table.rules.items rule ≡ Some r → WrittenRule b (shown m.table) ar k bs rule →
    WrittenList b (shown m.table) ar k (own_and (length r.slots.items) bs) r.body
body_written b m ar k bs rule r e (a_rule x f wh wp wl) =
    subst (λ y. WrittenList b (shown m.table) ar k (own_and (length y.slots.items) bs) y.body) (one_read m.table.rules.items rule x r f e) wl

-- what was written is, where no frame and no assumption came
pub head_written_on : (m n : Machine) (call : Call) (candidate : Candidate) → IsMore m n → WritesOn m n call candidate
head_written_on m n call candidate g ar vs h values σ T st G c w =
    search_same m n st (more_grows m n g) g.frames (record { assumptions = g.assumptions; newest = g.newest }) (ap (λ v. v.items) g.choices) ar w

-- the clause's goals came in front
pub body_written_on : (m k n o : Machine) (call : Call) (candidate : Candidate) (rule : ℕ) (p : Place) → IsMore m k → IsScopeFor m k call candidate
    rule p.values → KeepsGoals k n → KeepsAssumed k n → n.frames ≡ k.frames → KeepsGoals n o → KeepsAssumed n o → o.choices.items ≡ m.choices.items →
    ((r : Rule) → slice_get n.table.rules.items rule ≡ Some r → PutsList n o r.body p call.behind) → WritesOn m o call candidate
body_written_on m k n o call candidate rule p g scope kn an fn nq ao same puts ar vs h values σ T st G c w =
    let S = scope vs h values σ T st G in
    let r = T.is.0 in
    let A = around_written m ar w.at_work candidate vs h values σ T c in
    let table : n.table ≡ m.table = kn.known.table ∙ g.table in
    let W = body_written m.bank m ar A.0 A.1 T.rule r T.is.1 A.3 in
    let Q = list_span m.bank (shown m.table) ar A.0 (own_and (length r.slots.items) A.1) r.body W in
    let P = puts r (ap (λ t. slice_get t.rules.items rule) table ∙ ap (slice_get m.table.rules.items) S.0 ∙ T.is.1) Q.0 (subst (λ t. slice_get t.lists.items r.body ≡ Some Q.0) (sym table) Q.1) in
    let same_bank : o.bank ≡ k.bank = nq.known.bank ∙ kn.known.bank in
    let same_scopes : o.scopes ≡ k.scopes = nq.known.scopes ∙ kn.known.scopes in
    let grows : GrowsGoals m o = grows_then m k o (more_grows m k g) (grows_then k n o (grows_kept k n kn) (grows_kept n o nq)) in
    let assumptions : o.assumptions.items ≡ m.assumptions.items = ap (λ v. v.items) (ao.assumptions ∙ an.assumptions ∙ g.assumptions) in
    let old = older_written m o st grows ar m.frames.items m.assumptions.items st.frames w.at_work in
    let goals : WrittenGoals m.bank (shown m.table) ar A.0 (own_and (length r.slots.items) A.1) Q.0.from Q.0.to =
    list_goals m.bank (shown m.table) ar A.0 (own_and (length r.slots.items) A.1) r.body Q.0 W Q.1 in
    let count : length r.slots.items ≡ length vs = T.is.3.count in
    let new : IsWrittenTodo o.bank (shown o.table) ar (blocks_of o.scopes) p.values.scope (Todo.Goals Q.0) = record {
      type_vars = A.0;
      binders = own_and (length vs) A.1;
      values = S.2;
      scope_holds = subst (λ x. Holds x.values.items x.blocks.items p.values.scope S.2) (sym same_scopes) S.3;
      have = own_binders m.bank o.bank (length vs) A.1 T.outer S.2 σ A.2 T.at S.4 (λ i v e. ap (λ b. tree b v.0) same_bank ∙ S.5 i v e);
      is = subst (λ j. WrittenGoals o.bank (shown o.table) ar A.0 (own_and j A.1) Q.0.from Q.0.to) count
          (subst (λ t. WrittenGoals o.bank (shown t) ar A.0 (own_and (length r.slots.items) A.1) Q.0.from Q.0.to) (sym grows.table)
          (goals_later m.bank o.bank grows.bank m.table st.table ar A.0 goals));
    } in
    search_grows m o st grows (goes_on_by m.assumptions.items o.assumptions.items assumptions) same ar (record {
      goals = in_front Q.0 P old.goals new;
      clauses = subst (λ xs. All (IsWrittenClause o.bank (shown o.table) ar (blocks_of o.scopes)) xs) (sym assumptions) old.clauses;
    }) w
  where
    in_front : (s : Span) → ((o.frames.items ≡ n.frames.items) ⊎ ((s.from < s.to) × (o.frames.items ≡ n.frames.items ++ record { todo = Todo.Goals s; place = p; behind = call.behind } ∷ []))) →
        All (λ f. IsWrittenTodo o.bank (shown o.table) ar (blocks_of o.scopes) f.place.values.scope f.todo) m.frames.items → IsWrittenTodo o.bank
        (shown o.table) ar (blocks_of o.scopes) p.values.scope (Todo.Goals s) →
        All (λ f. IsWrittenTodo o.bank (shown o.table) ar (blocks_of o.scopes) f.place.values.scope f.todo) o.frames.items
    in_front s (inl e) a x = subst (λ fs. All (λ f. IsWrittenTodo o.bank (shown o.table) ar (blocks_of o.scopes) f.place.values.scope f.todo) fs) (sym (e ∙ ap (λ v. v.items) (fn ∙ g.frames))) a
    in_front s (inr (l, e)) a x =
        All_pushed (λ (f : Frame). IsWrittenTodo o.bank (shown o.table) ar (blocks_of o.scopes) f.place.values.scope f.todo) o.frames.items m.frames.items _
        (e ∙ ap (λ fs. fs ++ record { todo = Todo.Goals s; place = p; behind = call.behind } ∷ []) (ap (λ v. v.items) (fn ∙ g.frames))) a x
