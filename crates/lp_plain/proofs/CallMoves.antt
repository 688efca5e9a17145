-- A call whose step was taken is about to try its first candidate, as the definition is.
use Rattle.std.proofs.Common.{◌≡◌, ◌⊎◌, ℕ, zero, suc, ◌<◌, ◌≤◌, List, [], ◌∷◌, map, length, refl, sym, ap, inr, ◌∙◌, subst, Option, None, Some}
use Rattle.lp_calculus.specs.Convert.{by_beta, here, option_term, steps}
use Rattle.lp_calculus.specs.Fill.{Within}
use Rattle.lp_calculus.specs.Spine.{arguments, arguments_and, head_of}
use Rattle.lp_calculus.specs.Term.{Term, Atom, index, atom, abs, app, apply, substitute}
use Rattle.lp_calculus.proofs.Steps.{within_step}
use Rattle.lp_term.specs.Nodes.{Nodes, Extends, tree}
use Rattle.lp_term.specs.Spine.{IsNoApplication}
use Rattle.lp_term.specs.declared.node.TermId.{TermId}
use Rattle.lp_model.specs.Branch.{Branch, Entry, Task}
use Rattle.lp_model.specs.Flat.{Clauses}
use Rattle.lp_model.specs.Look.{weak_step}
use Rattle.lp_model.specs.Pair.{Closing, closed}
use Rattle.lp_model.specs.Search.{first_key, goal_looked, key_of}
use Rattle.lp_pattern.specs.Putting.{Known}
use Rattle.lp_pattern.proofs.Keeps.{goes_on_same, grows_same}
use Rattle.lp_plain.specs.declared.choice.Call.{Call}
use Rattle.lp_plain.specs.declared.frame.Place.{Place}
use Rattle.lp_plain.specs.declared.head.Head.{Head}
use Rattle.lp_plain.specs.declared.head.Key.{Key}
use Rattle.lp_plain.specs.declared.machine.Machine.{Machine}
use Rattle.lp_plain.specs.Assuming.{GrowsOn}
use Rattle.lp_plain.specs.Entries.{Around, GrowsGoals, Reads}
use Rattle.lp_plain.specs.Calling.{IsAtCall, IsProgramIn}
use Rattle.lp_plain.specs.Forms.{IsFirst}
use Rattle.lp_plain.specs.HeadLooks.{LooksAt, with_bank}
use Rattle.lp_plain.specs.Heads.{IsKey}
use Rattle.lp_plain.specs.Moving.{HasAlternatives, IsGoingOn, Query}
use Rattle.lp_plain.specs.Trials.{IsCallHead, goal_of, term_at, with_first_term}
use Rattle.lp_plain.specs.Within.{IsKeyIn, StandsIn}
use Rattle.lp_plain.proofs.CallLooks.{alone_is, first_is, first_lacks}
use Rattle.lp_plain.proofs.HeadLooks.{closed_apply, ended_key}
use Rattle.lp_plain.proofs.Spines.{head_applied, spine_arguments, spine_head}
use Rattle.lp_plain.proofs.TrialParts.{AllAre}
use Rattle.lp_plain.proofs.Trials.{arguments_closed}
use Rattle.lp_plain.proofs.AboveUnder.{still_all, still_done, still_turn}
use Rattle.lp_plain.proofs.Grown.{same_around}
use Rattle.lp_plain.proofs.Growing.{reads_later}
use Rattle.lp_plain.proofs.Inside.{inside_still}
use Rattle.lp_plain.proofs.Opening.{bank_stands}

-- steps of a look at the top keep what is known

weak_within : (P : Atom → Type 0) (d : ℕ) (t s : Term) → weak_step t ≡ Some s → Within P d t → Within P d s
weak_within P d (index i) s e w = absurd (cc)
weak_within P d (atom a) s e w = absurd (cc)
weak_within P d (abs b) s e w = absurd (cc)
weak_within P d (app (abs b) u) s e w = let z : substitute u b ≡ s = cc in subst (Within P d) z (within_step P d (here (by_beta b u)) w)
weak_within P d (app (index i) u) s e w = absurd (cc)
weak_within P d (app (atom a) u) s e w = absurd (cc)
weak_within P d (app (app t v) u) s e w =
    elim (weak_step (app t v)) as (λ o. weak_step (app t v) ≡ o → option_term (λ y. app y u) o ≡ Some s → Within P d s) [
      | None ↦ λ p q. absurd (cc)
      | Some r ↦ λ p q. let z : app r u ≡ s = cc in let y : Within P d (app r u) = (weak_within P d (app t v) r p w.0, w.1) in subst (Within P d) z y
    ] refl e

pub weaks_within : (P : Atom → Type 0) (d j : ℕ) (t s : Term) → steps weak_step j t ≡ Some s → Within P d t → Within P d s
weaks_within P d zero t s e w = let q : t ≡ s = cc in subst (Within P d) q w
weaks_within P d (suc j) t s e w = elim (weak_step t) as (λ o. weak_step t ≡ o → (elim o [ None ↦ None | Some r ↦ steps weak_step j r ]) ≡ Some s → Within P d s) [
  | None ↦ λ p q. absurd (cc)
  | Some r ↦ λ p q. weaks_within P d j r s q (weak_within P d t r p w)
] refl e

-- a search in which the bank alone grows

module _ (m : Machine) (b : Nodes) (x : Extends m.bank b) where
  pub bank_grown : GrowsOn m (with_bank m b)
  bank_grown = record {
    lists = record {
      bank = x;
      table = refl;
      blocks = goes_on_same m.scopes.blocks.items;
      values = goes_on_same m.scopes.values.items;
      assumptions = goes_on_same m.assumptions.items;
      newest = goes_on_same m.newest.items;
      standings = goes_on_same m.standings.items;
    };
    frames = goes_on_same m.frames.items;
    index = refl;
    denied = refl;
  }

  pub bank_goals : GrowsGoals m (with_bank m b)
  bank_goals = record { bank = x; table = refl; frames = goes_on_same m.frames.items; blocks = goes_on_same m.scopes.blocks.items; values = goes_on_same m.scopes.values.items }

  abbrev pub bank_alternatives : (qv : Query) (a : Around) (stack : List Task) → HasAlternatives qv m a stack → HasAlternatives qv (with_bank m b) a stack
  bank_alternatives qv a stack h =
      let n = with_bank m b in
      let st = h.done.stands in
      let sn = bank_stands m n x refl refl refl st in
      let lt = same_around (length m.newest.items) (length m.standings.items) a in
      let gb = grows_same m.bindings in
      record {
        raws = h.raws;
        others = h.others;
        done = still_done qv m n a a st sn bank_grown lt gb stack h refl;
        numbers = h.numbers;
        are = still_all qv m n a a st sn bank_grown lt gb stack h refl;
        in_turn = still_turn qv m n a a st sn bank_grown lt gb stack h refl;
        is = h.is;
        inside = inside_still qv m n a a st bank_grown lt gb h.inside h.done.base refl;
      }

  pub bank_reads : (a : Around) (o : Option ℕ) → StandsIn m → (es : List Entry) → Reads m a o es → Reads (with_bank m b) a o es
  bank_reads a o st es r = reads_later m (with_bank m b) st bank_goals a o es r

-- the goal with its first argument in its place

within_parts : (P : Atom → Type 0) (d : ℕ) (ts : List Term) (h : Term) → Within P d (apply h ts) → Within P d h × AllAre (Within P d) ts
within_parts P d [] h w = (w, tt)
within_parts P d (t ∷ ts) h w = let r = within_parts P d ts (app h t) w in (r.0.0, (r.0.1, r.1))

within_whole : (P : Atom → Type 0) (d : ℕ) (ts : List Term) (h : Term) → Within P d h → AllAre (Within P d) ts → Within P d (apply h ts)
within_whole P d [] h w a = w
within_whole P d (t ∷ ts) h w a = within_whole P d ts (app h t) (w, a.0) a.1

-- its first argument takes steps at its top
looked_within : (P : Atom → Type 0) (z : Closing) (h t u : Term) (ts : List Term) (j : ℕ) → steps weak_step j (closed z t) ≡ Some (closed z u) → Within P 0 (closed z (apply h (t ∷ ts))) → Within P 0 (closed z (apply h (u ∷ ts)))
looked_within P z h t u ts j e w =
    let r = within_parts P 0 (map (closed z) (t ∷ ts)) (closed z h) (subst (Within P 0) (closed_apply z (t ∷ ts) h) w) in
    subst (Within P 0) (sym (closed_apply z (u ∷ ts) h)) (within_whole P 0 (map (closed z) (u ∷ ts)) (closed z h) r.0 (weaks_within P 0 j (closed z t) (closed z u) e r.1.0, r.1.1))

own_call_head : (t : Term) → IsCallHead t → IsNoApplication t
own_call_head (index i) h = absurd h
own_call_head (atom a) h = tt
own_call_head (abs b) h = absurd h
own_call_head (app f a) h = absurd h

first_kept : (z : Closing) (ts : List Term) → ((t : Term) (us : List Term) → ts ≡ t ∷ us → key_of (closed z t) ≡ key_of t) → first_key (map (closed z) ts) ≡ first_key ts
first_kept z [] f = refl
first_kept z (t ∷ ts) f = f t ts refl

rebuilt : (t : Term) (more : List Term) → apply (head_of t) (arguments_and t more) ≡ apply t more
rebuilt (index i) more = refl
rebuilt (atom a) more = refl
rebuilt (abs b) more = refl
rebuilt (app f a) more = rebuilt f (a ∷ more)

-- the call behind its step, the bank grown by a look at its first argument

module _ (qv : Query) (m : Machine) (b : Nodes) (x : Extends m.bank b) (a : Around) (rest work : Branch) (below : List Task) (g : IsGoingOn qv m a rest work below) (p : Place) (goal : TermId) (hd : Head) (first : Option TermId) (e : Entry)
    (c : IsAtCall qv m a p goal hd first g.closing g.levels rest.next e) (css : List Clauses) (pr : IsProgramIn m qv.arity css) (looked : Option TermId) (key : Option Key) where
  abbrev n : Machine
  n = with_bank m b

  abbrev call : Call
  call = record { goal = goal; head = hd; first = looked; key = key; place = p; behind = m.branch.goals }

  abbrev t : Term
  t = tree m.bank goal.0

  abbrev z : Closing
  z = g.closing

  abbrev now : Term
  now = goal_of n call

  same : tree n.bank goal.0 ≡ t
  same = x.same_terms goal.0 c.within

  -- what the looked goal is
  pub record IsSeen : Type 0 where
    pub goal_is : (enough : ℕ) → (goal_looked enough (closed z t) ≡ None) ⊎ (goal_looked enough (closed z t) ≡ Some (closed z now))
    pub head_same : head_of now ≡ head_of t
    pub key_is : IsKey n.bank key (first_key (arguments now))
    pub key_kept : first_key (arguments (closed z now)) ≡ first_key (arguments now)
    pub known : Within (Known g.levels rest.next) 0 (closed z now)
    pub first_in_bank : (u : TermId) → looked ≡ Some u → u.0 < length n.bank.terms
    pub key_in : IsKeyIn (length n.bank.terms) key

  plain : IsNoApplication (head_of t)
  plain = own_call_head (head_of t) c.called

  head_once : head_of (head_of t) ≡ head_of t
  head_once = sym (spine_head (head_of t) (head_of t) [] plain refl)

  arguments_of : (ts : List Term) → now ≡ apply (head_of t) ts → arguments now ≡ ts
  arguments_of ts q = ap arguments q ∙ sym (spine_arguments (head_of t) (apply (head_of t) ts) ts plain refl)

  head_now : (ts : List Term) → now ≡ apply (head_of t) ts → head_of now ≡ head_of t
  head_now ts q = ap head_of q ∙ head_applied ts (head_of t) ∙ head_once

  call_head_now : (ts : List Term) → now ≡ apply (head_of t) ts → IsCallHead (head_of now)
  call_head_now ts q = subst IsCallHead (sym (head_now ts q)) c.called

  keys_kept : (ts : List Term) (q : now ≡ apply (head_of t) ts) → ((s : Term) (us : List Term) → ts ≡ s ∷ us → key_of (closed z s) ≡ key_of s) → first_key (arguments (closed z now)) ≡ first_key (arguments now)
  keys_kept ts q f =
      ap first_key (arguments_closed z now [] (call_head_now ts q)) ∙ ap (λ l. first_key (map (closed z) l)) (arguments_of ts q) ∙ first_kept z ts f ∙ ap first_key (sym (arguments_of ts q))

  -- without an argument
  pub seen_alone : first ≡ None → looked ≡ None → key ≡ None → IsSeen
  seen_alone none l k =
      let empty : arguments t ≡ [] = no_first m.bank (arguments t) first c.first_is none in
      let made : now ≡ apply (head_of t) [] = (λ i. apply (head_of (same i)) (with_first_term (term_at n.bank (l i)) (arguments (same i)))) ∙ ap (apply (head_of t)) empty in
      record {
        goal_is = λ enough. inr (alone_is m n call z t refl same c.called enough l empty);
        head_same = head_now [] made;
        key_is = subst (λ o. IsKey n.bank o (first_key (arguments now))) (sym k) (ap first_key (arguments_of [] made));
        key_kept = keys_kept [] made (λ s us w. cc);
        known = subst (λ s. Within (Known g.levels rest.next) 0 (closed z s)) (sym (made ∙ ap (apply (head_of t)) (sym empty) ∙ rebuilt t [])) c.known;
        first_in_bank = λ u w. absurd (let q = sym l ∙ w in cc);
        key_in = subst (IsKeyIn (length n.bank.terms)) (sym k) tt;
      }
    where
      no_first : (b : Nodes) (ts : List Term) (o : Option TermId) → IsFirst b ts o → o ≡ None → ts ≡ []
      no_first b [] o h w = refl
      no_first b (s ∷ ts) o h w = absurd (let q = sym h.1 ∙ w in cc)

  -- with one that was looked at
  module _ (u : TermId) (some : first ≡ Some u) where
    given : (more : List Term) × (arguments t ≡ tree m.bank u.0 ∷ more)
    given = go (arguments t) c.first_is
      where
        go : (ts : List Term) → IsFirst m.bank ts first → (more : List Term) × (ts ≡ tree m.bank u.0 ∷ more)
        go [] h = absurd (let q = sym h ∙ some in cc)
        go (s ∷ ts) h = let w : h.0 ≡ u = (let q : Some h.0 ≡ Some u = sym h.1 ∙ some in cc) in (ts, ap (λ y. y ∷ ts) (sym h.2 ∙ ap (λ i. tree m.bank i.0) w))

    pub deep_looked : (enough : ℕ) → enough ≤ 1000000 → LooksAt m n u None → goal_looked enough (closed z t) ≡ None
    deep_looked enough few deep = first_lacks m n call z t refl same c.called enough u u given.0 given.1 deep g.reading few

    module _ (v : TermId) (l : looked ≡ Some v) (looks : LooksAt m n u (Some v)) where
      made : now ≡ apply (head_of t) (tree n.bank v.0 ∷ given.0)
      made = (λ i. apply (head_of (same i)) (with_first_term (term_at n.bank (l i)) (arguments (same i)))) ∙ ap (λ ts. apply (head_of t) (with_first_term (Some (tree n.bank v.0)) ts)) given.1

      pub seen_first : IsKey n.bank key (key_of (tree n.bank v.0)) → (v.0 < length n.bank.terms → IsKeyIn (length n.bank.terms) key) → IsSeen
      seen_first ki kb =
          let reached = looks.2 z g.reading.reading in
          let there = looks.0 (c.first_within u some) in
          record {
            goal_is = λ enough. first_is m n call z t refl same c.called enough u v given.0 given.1 l looks g.reading;
            head_same = head_now (tree n.bank v.0 ∷ given.0) made;
            key_is = subst (IsKey n.bank key) (sym (ap first_key (arguments_of (tree n.bank v.0 ∷ given.0) made))) ki;
            key_kept = keys_kept (tree n.bank v.0 ∷ given.0) made (λ s us w. (let q : tree n.bank v.0 ≡ s = cc in subst (λ y. key_of (closed z y) ≡ key_of y) q (ended_key m.bank m.bindings m.branch.next z g.reading (tree n.bank v.0) looks.1)));
            known = subst (λ s. Within (Known g.levels rest.next) 0 (closed z s)) (sym made)
                (looked_within (Known g.levels rest.next) z (head_of t) (tree m.bank u.0) (tree n.bank v.0) given.0 reached.0 reached.2
                (subst (λ s. Within (Known g.levels rest.next) 0 (closed z s)) (sym (ap (apply (head_of t)) (sym given.1) ∙ rebuilt t [])) c.known));
            first_in_bank = λ w q. (let k : v ≡ w = (let y : Some v ≡ Some w = sym l ∙ q in cc) in subst (λ (y : TermId). y.0 < length n.bank.terms) k there);
            key_in = kb there;
          }
