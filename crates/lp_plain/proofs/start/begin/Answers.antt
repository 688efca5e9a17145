use Rattle.std.proofs.Common.{◌≡◌, [], ◌++◌, map, reverse, length, refl, sym, ap, ◌∙◌, subst, arith}
use Rattle.std.specs.Prelude.{◌<◌, All, nat_eq}
use Rattle.std.specs.HashMap.{get}
use Rattle.lp_lemmas.proofs.Elements.{All_empty}
use Rattle.lp_pattern.proofs.Keeps.{goes_on_same}
use Rattle.lp_plain.specs.Assuming.{lists_of}
use Rattle.lp_plain.specs.Candidates.{IsIndex, numbers}
use Rattle.lp_plain.proofs.LaterIndex.{index_later}
use Rattle.lp_term.specs.Nodes.{tree}
use Rattle.lp_model.specs.Flat.{goal_list}
use Rattle.lp_model.specs.Search.{vars_from}
use Rattle.lp_plain.specs.declared.frame.Frame.{Frame}
use Rattle.lp_plain.specs.Entries.{Reads, in_scope, no_frame}
use Rattle.lp_plain.specs.Starts.{IsOutermost, AreProgramOf, query_values}
use Rattle.lp_plain.specs.Within.{IsTodoIn}
use Rattle.lp_plain.proofs.Later.{list_later, rules_later, table_later}
use Rattle.lp_plain.proofs.Programs.{program_on}
use Rattle.lp_plain.proofs.Scoped.{scope_whole}
use Rattle.lp_plain.proofs.Starts.{outermost_placed, outside_entries, query_values_are, variables_are_values}
use Rattle.lp_model.specs.Search.{start}
use Rattle.lp_plain.proofs.QuietMoves.{first_state}
use Rattle.lp_plain.specs.Marks.{no_mark}
use Rattle.lp_plain.proofs.Marking.{first_marked}
use Rattle.lp_plain.proofs.FirstState.{begins_so, outermost, start_known}
use Rattle.std.proofs.lemmas.List.{length-reverse}
use Rattle.lp_plain.specs.Tables.{shown}
use Rattle.lp_plain.specs.WrittenTable.{own_and}
use Rattle.lp_plain.proofs.WrittenPut.{first_written, list_put, own_binders_are}
use Rattle.lp_plain.proofs.WrittenSearches.{search_list}
use Rattle.lp_plain.proofs.start.begin.Goals as goal

pub returns-clause-stands : goal.returns-clause-stands
returns-clause-stands c =
    let b = c.put_all.new.bank in
    let d = c.query_variables.new.bank in
    let m = c.in_ok-made.ensures in
    let v = c.in_ok-variables.ensures in
    let z = c.in_ok-front.ensures.stands (record {
      table = table_later b d v.kept c.in_ok-made.made.table m.within;
      values = variables_are_values d c.in_ok-variables.variables.items c.query_place.new.scopes.values.items c.len-count.result v.within v.trees
          (c.in_ok-place.ensures.values ∙ ap (λ l. l ++ reverse c.in_ok-variables.variables.items) c.new-scopes.ensures);
      frames = All_empty (λ (f : Frame). IsTodoIn (length d.terms) f.todo) c.new-frames.result.items c.new-frames.ensures.items;
    }) in
    record { table = z.table; values = z.values; frames = z.frames }

pub returns-clause-program : goal.returns-clause-program
returns-clause-program c = λ j k css h.
    let b = c.put_all.new.bank in
    let d = c.query_variables.new.bank in
    let t = c.in_ok-made.made.table in
    let m = c.in_ok-made.ensures in
    let x = c.in_ok-variables.ensures.kept in
    let ss = c.in_ok-made.made.spans.items in
    let known = c.in_ok-front.ensures.goals.known in
    subst (λ z. AreProgramOf z c.put_list.new.self.table ss css) (sym known.bank)
    (subst (λ z. AreProgramOf d z ss css) (sym known.table) (program_on b d t t (λ s cs p. rules_later b d x t m.within s.from s.to cs p) ss css (m.program j k css h)))

pub returns-clause-starts : goal.returns-clause-starts
returns-clause-starts c = λ l n k flat h a o answers.
    let b = c.put_all.new.bank in
    let d = c.query_variables.new.bank in
    let t = c.in_ok-made.made.table in
    let list = c.in_ok-made.made.list in
    let m = c.in_ok-made.ensures in
    let v = c.in_ok-variables.ensures in
    let p = c.in_ok-place.place in
    let f = c.in_ok-front.ensures in
    let vars = c.args.query.vars in
    let e : c.len-count.result ≡ length vars.items = omega (arith, c.len-count.ensures, vars.ok) in
    let count = length vars.items in
    let σ = query_values count in
    let ts = c.in_ok-variables.variables.items in
    let trees : map (λ t. tree d t.0) ts ≡ vars_from count 0 = v.trees ∙ ap (λ i. vars_from i 0) e in (
      record {
        goals =
            subst (Reads c.put_list.new.self a c.in_ok-front.front) (outside_entries a p σ flat o c.in_ok-place.ensures.outside)
            (f.reads a (goal_list (in_scope σ p.values.types flat)) [] (
              flat,
              σ,
              list_later b d v.kept t m.within list flat (m.query l n k flat h),
              (
                reverse ts,
                scope_whole c.query_place.new.scopes p.values.scope (reverse ts) c.in_ok-place.ensures.scope,
                query_values_are d ts count
                    trees,
              ),
              refl,
            ) (no_frame refl refl));
        next = ap (λ z. z.next) f.course.branch ∙ e;
        next_type = ap (λ z. z.next_type) f.course.branch;
      },
      f.course.choices ∙ c.new-choices.ensures.items,
    )

pub returns-clause-ends : goal.returns-clause-ends
returns-clause-ends c = subst (λ t. All (λ k. k < length t.rules.items) (numbers c.in_ok-made.made.spans.items)) (sym c.in_ok-front.ensures.goals.known.table) c.in_ok-made.ensures.ends

pub returns-clause-index : goal.returns-clause-index
returns-clause-index c =
    let b = c.put_all.new.bank in
    let d = c.query_variables.new.bank in
    let m = c.in_ok-made.ensures in
    let known = c.in_ok-front.ensures.goals.known in
    let ks = numbers c.in_ok-made.made.spans.items in
    subst (λ z. IsIndex z c.put_list.new.self.table.rules.items (λ k. get nat_eq c.put_list.new.self.index k) ks) (sym known.bank)
    (subst (λ z. IsIndex d z.rules.items (λ k. get nat_eq c.put_list.new.self.index k) ks) (sym known.table)
    (subst (λ z. IsIndex d c.in_ok-made.made.table.rules.items (λ k. get nat_eq z k) ks) (sym known.index)
    (index_later b d c.in_ok-made.made.table.rules.items c.in_ok-made.made.table.rules.items _ ks c.in_ok-variables.ensures.kept
    (goes_on_same c.in_ok-made.made.table.rules.items) m.within.rules m.ends m.index)))

pub returns-clause-placed : goal.returns-clause-placed
returns-clause-placed c = λ a i. outermost_placed (lists_of c.put_list.new.self) a c.in_ok-place.place c.new-frames.result.items
    c.put_list.new.self.frames.items c.new-frames.ensures.items c.in_ok-front.ensures.frame i c.in_ok-place.ensures.outside

pub returns-clause-state : goal.returns-clause-state
returns-clause-state c = λ l n k flat h a o answers.
    let f = c.in_ok-front.ensures.course in
    let alone = returns-clause-starts c l n k flat h a o answers in
    first_state c.args.limit a _ (start c.args.query.type_vars (length c.args.query.vars.items) flat c.args.limit answers) _ alone.0 alone.1
    (returns-clause-stands c) (returns-clause-placed c a o) f.denied f.counts refl refl refl refl refl

pub returns-clause-marked : goal.returns-clause-marked
returns-clause-marked c =
    let f = c.in_ok-front.ensures in
    let mk = c.in_ok-place.ensures.outside.mark in
    first_marked _ (f.course.choices ∙ c.new-choices.ensures.items) f.course.denied (f.marks 0 0 (no_mark refl) (omega arith) (omega (arith, mk)))

pub returns-clause-begun : goal.returns-clause-begun
returns-clause-begun c = λ l n k flat h hv ar answers.
    let f = c.in_ok-front.ensures in
    let o : IsOutermost outermost = record { assumed = refl; written = refl; mark = refl } in
    let alone = returns-clause-starts c l n k flat h outermost o answers in
    begins_so (record { types = c.args.query.type_vars; vars = length c.args.query.vars.items; arity = ar; outer = [] }) c.args.limit _
    (start c.args.query.type_vars (length c.args.query.vars.items) flat c.args.limit answers) _ _ alone.0 refl refl refl refl alone.1
    (returns-clause-stands c) (returns-clause-placed c outermost o)
    f.course.denied f.course.counts (ap (λ z. z.terms.entries) f.goals.known.bindings ∙ c.new-bindings.ensures.terms) (ap (λ z. z.types.entries) f.goals.known.bindings ∙ c.new-bindings.ensures.types)
    (ap (λ z. z.pairs.items) f.course.branch ∙ c.new-pairs.ensures.items)
    (start_known ar c.args.query.type_vars (length c.args.query.vars.items) flat hv _ refl refl refl) refl refl refl refl refl refl

pub returns-clause-written : goal.returns-clause-written
returns-clause-written c = λ l n j flat h ar k w.
    let b = c.put_all.new.bank in
    let d = c.query_variables.new.bank in
    let t = c.in_ok-made.made.table in
    let list = c.in_ok-made.made.list in
    let m = c.in_ok-made.ensures in
    let v = c.in_ok-variables.ensures in
    let p = c.in_ok-place.place in
    let f = c.in_ok-front.ensures in
    let vars = c.args.query.vars in
    let ts = c.in_ok-variables.variables.items in
    let count = length vars.items in
    let e : length (reverse ts) ≡ count = (let q = length-reverse ts in omega (arith, q, v.count, c.len-count.ensures, vars.ok)) in
    let z = search_list _ c.put_list.new.self list p _ f.goals f.assumed f.course.choices f.puts ar
    (record {
      table = table_later b d v.kept t m.within;
      values = variables_are_values d ts c.query_place.new.scopes.values.items c.len-count.result v.within v.trees (c.in_ok-place.ensures.values ∙ ap (λ x. x ++ reverse ts) c.new-scopes.ensures);
      frames = All_empty (λ (x : Frame). IsTodoIn (length d.terms) x.todo) c.new-frames.result.items c.new-frames.ensures.items;
    })
    (record {
      type_vars = k;
      binders = own_and count [];
      values = reverse ts;
      scope_holds = scope_whole c.query_place.new.scopes p.values.scope (reverse ts) c.in_ok-place.ensures.scope;
      have = own_binders_are d count (reverse ts) e;
      is = list_put d (shown t) ar k (own_and count []) list flat w (list_later b d v.kept t m.within list flat (m.query l n j flat h));
    })
    (first_written _ c.new-frames.ensures.items c.new.ensures.items c.new-choices.ensures.items ar) in
    record { at_work = z.at_work; alternatives = z.alternatives; older = z.older }

pub returns-clause-steps : goal.returns-clause-steps
returns-clause-steps c = ap (λ z. z.steps) c.in_ok-front.ensures.course.counts

pub returns-clause-constants : goal.returns-clause-constants
returns-clause-constants c = refl
