-- Each task that is done keeps what `Looked` says.
use Rattle.std.proofs.Common.{◌≡◌, ℕ, ◌<◌, ◌≤◌, List, [], ◌∷◌, ◌++◌, map, length, refl, sym, ap, subst, ◌∙◌, Option, Some}
use Rattle.std.specs.Prelude.{All, slice_get}
use Rattle.std.proofs.lemmas.List.{map-append, append-nil, append_assoc}
use Rattle.std.proofs.lemmas.List.Elements.{All-append, All-cons, All-nil}
use Rattle.lp_lemmas.proofs.Lists.{map_agree_on}
use Rattle.lp_base.specs.declared.place.Spot.{Spot}
use Rattle.lp_calculus.specs.Types.{Ty}
use Rattle.lp_term.specs.Nodes.{Extends}
use Rattle.lp_term.proofs.Trees.{extends_same}
use Rattle.lp_syntax.specs.declared.text.RawNode.{RawNode}
use Rattle.lp_syntax.specs.declared.text.RawNode.TheVariants.{App, Abs}
use Rattle.lp_syntax.specs.declared.text.RawType.{RawType}
use Rattle.lp_sig.specs.declared.signature.Signature.{Signature}
use Rattle.lp_sig.specs.Pieces.{spelled}
use Rattle.lp_infer.specs.Typing.{raw_app, raw_abs}
use Rattle.lp_infer.specs.Texts.{Notes, leaf, application, abstraction, IsNoted, read_leaf}
use Rattle.lp_infer.specs.Firsts.{AreFirsts}
use Rattle.lp_infer.specs.Levels.{HasScope, level_of}
use Rattle.lp_infer.specs.Postfix.{Mark, opens, closes, applies, postfix, mark, given_type, IsStep}
use Rattle.lp_infer.specs.Visits.{Agrees, behind, Runs, AreOpen, noted_types, marks, Looked, IsLeafRead, IsOpened}
use Rattle.lp_infer.specs.declared.lookup.Step.{Step}
use Rattle.lp_infer.specs.declared.lookup.Step.TheVariants as step
use Rattle.lp_infer.specs.declared.lookup.Task.{Task}
use Rattle.lp_infer.specs.declared.lookup.Task.TheVariants as task
use Rattle.lp_infer.specs.declared.lookup.Lookup.{Lookup}
use Rattle.lp_infer.proofs.Meanings.{noted_once}
use Rattle.lp_infer.proofs.Visiting.{mark_same, step_more, reads_leaf, reads_app, reads_abs}

known_pushed : (n m : ℕ) (old new : List Step) (s : Step) → n ≤ m → new ≡ old ++ s ∷ [] → All (IsStep n) old → IsStep m s → All (IsStep m) new
known_pushed n m old new s l e h k =
    subst (All (IsStep m)) (sym e) (All-append (IsStep m) old (s ∷ []) (all_more old h) (All-cons (IsStep m) s [] k (All-nil (IsStep m)))) where
      all_more : (xs : List Step) → All (IsStep n) xs → All (IsStep m) xs
      all_more xs h = λ i d b. step_more n m l _ (h i d b)

module _ (sig : Signature) (text : List ℕ) (nodes : List RawNode) (root : ℕ) where
  -- a task is done: these marks stand behind, and the rest of the tasks goes on
  record IsPassed (κ : Notes) (count : ℕ) (scope : List (List ℕ)) (before : List Spot) (tasks : List Task) (now : List (List ℕ)) (middle : List Spot) (left : List Task) (ms : List Mark) : Type 0 where
    out : (code : List Mark) (after : List Spot) → Runs sig text nodes κ count now middle left code after → Runs sig text nodes κ count scope before tasks (ms ++ code) after
    back : (code : List Mark) (after : List Spot) → Runs sig text nodes κ count scope before tasks code after → (more : List Mark) × (code ≡ ms ++ more) × Runs sig text nodes κ count now middle left more after

  marks_pushed : (old new : Lookup) (s : Step) → new.steps.items ≡ old.steps.items ++ s ∷ [] → Extends old.types new.types → All (IsStep (length old.types.types)) old.steps.items →
      (count : ℕ) (ρ : ℕ → Ty) → marks sig text count ρ new ≡ marks sig text count ρ old ++ mark text sig.bank count (noted_types new.types ρ) s ∷ []
  marks_pushed old new s e E k count ρ =
      ap (map (mark text sig.bank count (noted_types new.types ρ))) e ∙
      map-append (mark text sig.bank count (noted_types new.types ρ)) old.steps.items (s ∷ []) ∙
      ap (λ l. l ++ mark text sig.bank count (noted_types new.types ρ) s ∷ [])
      (sym (map_agree_on (IsStep (length old.types.types)) (mark text sig.bank count (noted_types old.types ρ)) (mark text sig.bank count (noted_types new.types ρ)) (λ s h. mark_same sig text count old.types new.types E ρ s h) old.steps.items k))

  -- what changes when tasks are done, and what stays
  record Change (old new : Lookup) (tasks left : List Task) (S : Looked sig text nodes root old tasks) : Type 0 where
    now : List (List ℕ)
    has_scope : HasScope now new.scope
    are_open : AreOpen text now left
    variables : AreFirsts text new.variables
    notes : AreFirsts text new.notes
    known : All (IsStep (length new.types.types)) new.steps.items
    agrees : (κ : Notes) (ρ : ℕ → Ty) → Agrees text new.notes.places.items κ ρ → Agrees text old.notes.places.items κ ρ
    ms : ℕ → (ℕ → Ty) → List Mark
    marked : (count : ℕ) (ρ : ℕ → Ty) → marks sig text count ρ new ≡ marks sig text count ρ old ++ ms count ρ
    passed : (κ : Notes) (ρ : ℕ → Ty) (count : ℕ) → Agrees text new.notes.places.items κ ρ → IsPassed κ count S.scope old.variables.places.items tasks now new.variables.places.items left (ms count ρ)

  moved : (old new : Lookup) (tasks left : List Task) (S : Looked sig text nodes root old tasks) → Change old new tasks left S → Looked sig text nodes root new left
  moved old new tasks left S C = record {
    scope = C.now;
    has_scope = C.has_scope;
    are_open = C.are_open;
    variables = C.variables;
    notes = C.notes;
    known = C.known;
    sound = λ κ ρ count A code after r.
        let ms = C.ms count ρ in
        let all = marks sig text count ρ old in
        let e : all ++ (ms ++ code) ≡ marks sig text count ρ new ++ code = sym (append_assoc all ms code) ∙ ap (λ l. l ++ code) (sym (C.marked count ρ)) in
        subst (λ l. Runs sig text nodes κ count [] [] (task.Visit root ∷ []) l after) e (S.sound κ ρ count (C.agrees κ ρ A) (ms ++ code) after ((C.passed κ ρ count A).out code after r));
    complete = λ κ ρ count A code after r.
        let ms = C.ms count ρ in
        let all = marks sig text count ρ old in
        let first = S.complete κ ρ count (C.agrees κ ρ A) code after r in
        let then = (C.passed κ ρ count A).back first.0 after first.2 in
        (then.0, first.1 ∙ ap (λ l. all ++ l) then.1 ∙ sym (append_assoc all ms then.0) ∙ ap (λ l. l ++ then.0) (sym (C.marked count ρ)), then.2);
  }

  -- before the first node
  pub begun : (l : Lookup) → l.steps.items ≡ [] → l.variables.places.items ≡ [] → HasScope [] l.scope → AreFirsts text l.variables → AreFirsts text l.notes → Looked sig text nodes root l (task.Visit root ∷ [])
  begun l none first scope variables notes = record {
    scope = [];
    has_scope = scope;
    are_open = refl;
    variables = variables;
    notes = notes;
    known = subst (All (IsStep (length l.types.types))) (sym none) (All-nil (IsStep (length l.types.types)));
    sound = λ κ ρ count A code after r.
        subst (λ ms. Runs sig text nodes κ count [] [] (task.Visit root ∷ []) (map (mark text sig.bank count (noted_types l.types ρ)) ms ++ code) after) (sym none)
        (subst (λ b. Runs sig text nodes κ count [] b (task.Visit root ∷ []) code after) first r);
    complete = λ κ ρ count A code after r.
        (code, ap (λ ms. map (mark text sig.bank count (noted_types l.types ρ)) ms ++ code) (sym none), subst (λ b. Runs sig text nodes κ count [] b (task.Visit root ∷ []) code after) (sym first) r);
  }

  -- a node without parts
  pub past_leaf : (old new : Lookup) (n : ℕ) (node : RawNode) (ts : List Task) (S : Looked sig text nodes root old (task.Visit n ∷ ts)) → slice_get nodes n ≡ Some node →
      ((names : List (List ℕ)) → HasScope names old.scope → IsLeafRead sig text (λ count. read_leaf sig text count names node old.variables.places.items) old new) → Looked sig text nodes root new ts
  past_leaf old new n node ts S at read =
      let L = read S.scope S.has_scope in
      let types : Extends old.types new.types = subst (Extends old.types) (sym L.types) (extends_same old.types) in
      moved old new (task.Visit n ∷ ts) ts S (record {
        now = S.scope;
        has_scope = subst (HasScope S.scope) (sym L.scope) S.has_scope;
        are_open = S.are_open;
        variables = L.variables S.variables;
        notes = subst (AreFirsts text) (sym L.notes) S.notes;
        known = known_pushed (length old.types.types) (length new.types.types) old.steps.items new.steps.items L.step types.more_types L.steps S.known (L.known (length new.types.types));
        agrees = λ κ ρ A. subst (λ f. Agrees text f.places.items κ ρ) L.notes A;
        ms = λ count ρ. mark text sig.bank count (noted_types new.types ρ) L.step ∷ [];
        marked = marks_pushed old new L.step L.steps types S.known;
        passed = λ κ ρ count A. record {
          out = λ code after r.
              (L.raw count, new.variables.places.items, code, ap (λ l. l ++ code) (sym (L.marked count (noted_types new.types ρ))), leaf S.scope old.variables.places.items n node (L.raw count) new.variables.places.items at (L.reads count), r);
          back = λ code after r.
              let e = reads_leaf sig text nodes κ count S.scope old.variables.places.items n node (L.raw count) new.variables.places.items r.0 r.1 at (L.reads count) r.4 in
              (r.2, r.3 ∙ ap (λ R. postfix R ++ r.2) e.0 ∙ ap (λ l. l ++ r.2) (L.marked count (noted_types new.types ρ)), subst (λ m. Runs sig text nodes κ count S.scope m ts r.2 after) e.1 r.5);
        };
      })

  same_parts : (f x more : List Mark) → (f ++ (x ++ applies ∷ [])) ++ more ≡ f ++ (x ++ (applies ∷ more))
  same_parts f x more = append_assoc f (x ++ applies ∷ []) more ∙ ap (λ l. f ++ l) (append_assoc x (applies ∷ []) more)

  -- an application
  pub past_application : (old : Lookup) (n f x : ℕ) (ts : List Task) → slice_get nodes n ≡ Some (App f x) → f < n → x < n → Looked sig text nodes root old (task.Visit n ∷ ts) → Looked sig text nodes root old (task.Visit f ∷ task.Visit x ∷ task.Apply ∷ ts)
  past_application old n f x ts at lf lx S =
      moved old old (task.Visit n ∷ ts) (task.Visit f ∷ task.Visit x ∷ task.Apply ∷ ts) S (record {
        now = S.scope;
        has_scope = S.has_scope;
        are_open = S.are_open;
        variables = S.variables;
        notes = S.notes;
        known = S.known;
        agrees = λ κ ρ A. A;
        ms = λ count ρ. [];
        marked = λ count ρ. sym (append-nil (marks sig text count ρ old));
        passed = λ κ ρ count A. record { out = λ code after r. together κ count code after r; back = λ code after r. (code, refl, apart κ count code after r) };
      })
    where
      together : (κ : Notes) (count : ℕ) (code : List Mark) (after : List Spot) → Runs sig text nodes κ count S.scope old.variables.places.items (task.Visit f ∷ task.Visit x ∷ task.Apply ∷ ts) code after → Runs sig text nodes κ count S.scope old.variables.places.items (task.Visit n ∷ ts) code after
      together κ count code after r =
          let s = r.5 in
          let t = s.5 in (
            raw_app r.0 s.0,
            s.1,
            t.0,
            r.3 ∙ ap (λ l. postfix r.0 ++ l) (s.3 ∙ ap (λ l. postfix s.0 ++ l) t.1) ∙ sym (same_parts (postfix r.0) (postfix s.0) t.0),
            application S.scope old.variables.places.items n f x r.0 s.0 r.1 s.1 at lf lx r.4 s.4,
            t.2,
          )

      apart : (κ : Notes) (count : ℕ) (code : List Mark) (after : List Spot) → Runs sig text nodes κ count S.scope old.variables.places.items (task.Visit n ∷ ts) code after → Runs sig text nodes κ count S.scope old.variables.places.items (task.Visit f ∷ task.Visit x ∷ task.Apply ∷ ts) code after
      apart κ count code after r =
          let P = reads_app sig text nodes κ count S.scope old.variables.places.items n f x r.0 r.1 at r.4 in
          let last : List Mark = applies ∷ r.2 in (
            P.head,
            P.middle,
            postfix P.argument ++ last,
            r.3 ∙ ap (λ R. postfix R ++ r.2) P.is ∙ same_parts (postfix P.head) (postfix P.argument) r.2,
            P.reads_head,
            (P.argument, r.1, last, refl, P.reads_argument, (r.2, refl, r.5)),
          )

  -- the beginning of an abstraction
  pub past_abstraction : (old new : Lookup) (n : ℕ) (s : Spot) (note : Option RawType) (b : ℕ) (outside : Option ℕ) (ts : List Task) → slice_get nodes n ≡ Some (Abs s note b) → b < n →
      IsOpened sig text (spelled text s) note old new outside → Looked sig text nodes root old (task.Visit n ∷ ts) → Looked sig text nodes root new (task.Visit b ∷ task.Leave s outside ∷ ts)
  past_abstraction old new n s note b outside ts at lb O S =
      let entered = O.scope S.scope S.has_scope in
      moved old new (task.Visit n ∷ ts) (task.Visit b ∷ task.Leave s outside ∷ ts) S (record {
        now = spelled text s ∷ S.scope;
        has_scope = entered.0;
        are_open = (refl, entered.1, S.are_open);
        variables = subst (AreFirsts text) (sym O.variables) S.variables;
        notes = O.firsts S.notes;
        known = known_pushed (length old.types.types) (length new.types.types) old.steps.items new.steps.items (step.Open O.given) O.types.more_types O.steps S.known O.noted.0;
        agrees = O.agrees;
        ms = λ count ρ. opens (given_type (noted_types new.types ρ) O.given) ∷ [];
        marked = marks_pushed old new (step.Open O.given) O.steps O.types S.known;
        passed = λ κ ρ count A. record {
          out = λ code after r. together κ count (given_type (noted_types new.types ρ) O.given) (O.noted.1 κ ρ A) code after (subst (λ f. Runs sig text nodes κ count (spelled text s ∷ S.scope) f.places.items (task.Visit b ∷ task.Leave s outside ∷ ts) code after) O.variables r);
          back = λ code after r.
              let p = apart κ count (given_type (noted_types new.types ρ) O.given) (O.noted.1 κ ρ A) code after r in
              (p.0, p.1, subst (λ f. Runs sig text nodes κ count (spelled text s ∷ S.scope) f.places.items (task.Visit b ∷ task.Leave s outside ∷ ts) p.0 after) (sym O.variables) p.2);
        };
      })
    where
      together : (κ : Notes) (count : ℕ) (given : Option Ty) → IsNoted sig text κ note given → (code : List Mark) (after : List Spot) → Runs sig text
          nodes κ count (spelled text s ∷ S.scope) old.variables.places.items (task.Visit b ∷ task.Leave s outside ∷ ts) code after → Runs sig text
          nodes κ count S.scope old.variables.places.items (task.Visit n ∷ ts) (opens given ∷ code) after
      together κ count given noted code after r =
          let t = r.5 in (
            raw_abs given r.0,
            r.1,
            t.0,
            ap (λ l. opens given ∷ l) (r.3 ∙ ap (λ l. postfix r.0 ++ l) t.1 ∙ sym (append_assoc (postfix r.0) (closes ∷ []) t.0)),
            abstraction S.scope old.variables.places.items n s note b given r.0 r.1 at lb noted r.4,
            t.2,
          )

      apart : (κ : Notes) (count : ℕ) (given : Option Ty) → IsNoted sig text κ note given → (code : List Mark) (after : List Spot) → Runs sig text nodes κ count S.scope old.variables.places.items (task.Visit n ∷ ts) code after →
          (more : List Mark) × (code ≡ opens given ∷ more) × Runs sig text nodes κ count (spelled text s ∷ S.scope) old.variables.places.items (task.Visit b ∷ task.Leave s outside ∷ ts) more after
      apart κ count given noted code after r =
          let P = reads_abs sig text nodes κ count S.scope old.variables.places.items n s note b r.0 r.1 at r.4 in
          let same : P.given ≡ given = noted_once sig text κ note P.given given P.noted noted in
          let last : List Mark = closes ∷ r.2 in (
            postfix P.body ++ last,
            r.3 ∙ ap (λ R. postfix R ++ r.2) P.is ∙ ap (λ g. opens g ∷ ((postfix P.body ++ closes ∷ []) ++ r.2)) same ∙ ap (λ l. opens given ∷ l) (append_assoc (postfix P.body) (closes ∷ []) r.2),
            (P.body, r.1, last, refl, P.reads_body, (r.2, refl, r.5)),
          )

  -- an end: of an abstraction or of an application
  pub past_leave : (old new : Lookup) (s : Spot) (outside : Option ℕ) (ts : List Task) → new.steps.items ≡ old.steps.items ++ step.Close ∷ [] → new.types ≡ old.types → new.notes ≡ old.notes → new.variables ≡ old.variables →
      ((names : List (List ℕ)) → HasScope (spelled text s ∷ names) old.scope → outside ≡ level_of (spelled text s) names → HasScope names new.scope) →
      Looked sig text nodes root old (task.Leave s outside ∷ ts) → Looked sig text nodes root new ts
  past_leave old new s outside ts steps types notes variables left S = go S.scope refl S.has_scope S.are_open where
    grown : Extends old.types new.types
    grown = subst (Extends old.types) (sym types) (extends_same old.types)

    go : (names : List (List ℕ)) → S.scope ≡ names → HasScope names old.scope → AreOpen text names (task.Leave s outside ∷ ts) → Looked sig text nodes root new ts
    go [] e H o = absurd o
    go (y ∷ ys) e H o =
        let f : y ≡ spelled text s = o.0 in
        moved old new (task.Leave s outside ∷ ts) ts S (record {
          now = ys;
          has_scope = left ys (subst (λ w. HasScope (w ∷ ys) old.scope) f H) (o.1 ∙ ap (λ w. level_of w ys) f);
          are_open = o.2;
          variables = subst (AreFirsts text) (sym variables) S.variables;
          notes = subst (AreFirsts text) (sym notes) S.notes;
          known = known_pushed (length old.types.types) (length new.types.types) old.steps.items new.steps.items step.Close grown.more_types steps S.known tt;
          agrees = λ κ ρ A. subst (λ f. Agrees text f.places.items κ ρ) notes A;
          ms = λ count ρ. closes ∷ [];
          marked = marks_pushed old new step.Close steps grown S.known;
          passed = λ κ ρ count A. record {
            out = λ code after r.
                (code, refl, subst (λ l. Runs sig text nodes κ count (behind l) old.variables.places.items ts code after) (sym e) (subst (λ f. Runs sig text nodes κ count ys f.places.items ts code after) variables r));
            back = λ code after r.
                (r.0, r.1, subst (λ f. Runs sig text nodes κ count ys f.places.items ts r.0 after) (sym variables) (subst (λ l. Runs sig text nodes κ count (behind l) old.variables.places.items ts r.0 after) e r.2));
          };
        })

  pub past_apply : (old new : Lookup) (ts : List Task) → new.steps.items ≡ old.steps.items ++ step.Apply ∷ [] → new.types ≡ old.types → new.notes ≡ old.notes → new.variables ≡ old.variables → new.scope ≡ old.scope →
      Looked sig text nodes root old (task.Apply ∷ ts) → Looked sig text nodes root new ts
  past_apply old new ts steps types notes variables scope S =
      let grown : Extends old.types new.types = subst (Extends old.types) (sym types) (extends_same old.types) in
      moved old new (task.Apply ∷ ts) ts S (record {
        now = S.scope;
        has_scope = subst (HasScope S.scope) (sym scope) S.has_scope;
        are_open = S.are_open;
        variables = subst (AreFirsts text) (sym variables) S.variables;
        notes = subst (AreFirsts text) (sym notes) S.notes;
        known = known_pushed (length old.types.types) (length new.types.types) old.steps.items new.steps.items step.Apply grown.more_types steps S.known tt;
        agrees = λ κ ρ A. subst (λ f. Agrees text f.places.items κ ρ) notes A;
        ms = λ count ρ. applies ∷ [];
        marked = marks_pushed old new step.Apply steps grown S.known;
        passed = λ κ ρ count A. record {
          out = λ code after r. (code, refl, subst (λ f. Runs sig text nodes κ count S.scope f.places.items ts code after) variables r);
          back = λ code after r. (r.0, r.1, subst (λ f. Runs sig text nodes κ count S.scope f.places.items ts r.0 after) (sym variables) r.2);
        };
      })
