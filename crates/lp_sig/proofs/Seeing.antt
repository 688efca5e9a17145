-- What the tables hold of all that is seen, in a text, behind it and behind each step.
use Rattle.std.specs.Global.{Global}
use Rattle.std.proofs.Common.{◌≡◌, ℕ, ◌+◌, ◌<◌, ◌≤◌, List, [], ◌∷◌, ◌++◌, length, map, take, get_or, Option, Some, None, refl, sym, ap, subst, ◌∙◌, true, true≢false, arith}
use Rattle.std.specs.Prelude.{String, Vec, is_some, slice_index_or}
use Rattle.std.proofs.lemmas.List.{length-map}
use Rattle.lp_term.specs.Nodes.{Nodes, Extends}
use Rattle.lp_term.specs.declared.node.TypeId.{TypeId}
use Rattle.lp_syntax.specs.declared.text.Declaration.{Declaration}
use Rattle.lp_syntax.specs.declared.text.SignatureText.{SignatureText}
use Rattle.lp_sig.specs.Rows.{Row}
use Rattle.lp_sig.specs.Said.{Said, of_step, of_steps}
use Rattle.lp_sig.specs.Knowing.{Knows}
use Rattle.lp_sig.specs.Types.{Definition}
use Rattle.lp_sig.specs.Abbreviations.{Seen, nothing_seen, seen_text, Text, one_text, seen_after}
use Rattle.lp_sig.specs.Holding.{body_of, line_at, HoldsBodies, KnowsBodies, KnowsTypes, KnowsSeen, Follows}
use Rattle.lp_sig.specs.Refusals.{seen_before, seen_in}
use Rattle.lp_sig.specs.declared.bodies.Body.{Body}
use Rattle.lp_sig.specs.declared.making.Making.{Making}
use Rattle.lp_sig.specs.declared.walk.Step.{Step}
use Rattle.lp_sig.proofs.Typing.{bodies_stay}
use Rattle.lp_sig.proofs.Settling.{lines_stay}
use Rattle.lp_sig.proofs.Spoken.{steps_more, all_steps_said}

no_type : (id : TypeId) → None ≡ Some id → ⊥
no_type id e = absurd (cc)

no_number : (n : ℕ) → None ≡ Some n → ⊥
no_number n e = absurd (cc)

-- at the start
pub knows_nothing : (making : Making) → Knows making.names [] → map (λ out. out.items) making.uses.ways.items ≡ [] → making.bodies.bodies.items ≡ [] → KnowsSeen making nothing_seen
knows_nothing making names none empty = record {
  names = names;
  uses = record { are = none; has = λ n e. absurd (true≢false (sym e)); said = λ n e. absurd (true≢false (sym e)) };
  types = record {
    holds = λ name place id at is. absurd (no_type id (ap (λ bs. body_of bs place) (sym empty) ∙ is));
    count = ap length empty;
    told = λ n e. absurd (true≢false (sym e));
    no_line = λ i. ap (λ bs. line_at bs i) empty;
  };
  settled = λ place l. let none_there : length making.bodies.bodies.items ≡ 0 = ap length empty in absurd (omega (arith, l, none_there));
  alike = λ k d h. absurd (omega (arith, h));
}

-- a text begins
pub at_work : (b : Nodes) (bodies : List Body) (z : Seen) (text : List ℕ) (declared : ℕ → Option Declaration) → KnowsTypes b bodies z → KnowsBodies b bodies z.said z.definitions text declared
at_work b bodies z text declared k = record {
  holds = k.holds;
  lines = λ name place line s ps ty at is d. absurd (no_number line (sym (k.no_line place) ∙ is));
  count = k.count;
  told = k.told;
}

same_length : {A : Type 0} (f : Body → A) (old new : List Body) → map f new ≡ map f old → length new ≡ length old
same_length f old new same = let a = length-map old f in let b = length-map new f in let c = ap length same in omega (arith, a, b, c)

module _ (b now : Nodes) (old new : List Body) (said : List (Row Said)) (defs : List (Row Definition)) (text : List ℕ) (declared : ℕ → Option Declaration) where
  -- its abbreviations are settled
  pub settled : map (λ b. b.line) new ≡ map (λ b. b.line) old → HoldsBodies now new said defs → KnowsBodies b old said defs text declared → KnowsBodies now new said defs text declared
  settled same holds k = record {
    holds = holds;
    lines = lines_stay old new said defs text declared same k.lines;
    count = same_length (λ b. b.line) old new same ∙ k.count;
    told = k.told;
  }

  -- the bank grows
  pub work_stays : Extends b now → new ≡ old → KnowsBodies b old said defs text declared → KnowsBodies now new said defs text declared
  work_stays x same k = settled (ap (map (λ b. b.line)) same) (bodies_stay b now old new said defs x same k.holds) k

-- a text is left
pub left_behind : (b : Nodes) (old new : List Body) (z : Seen) (text : List ℕ) (declared : ℕ → Option Declaration) → map (λ b. b.body) new ≡ map (λ b. b.body) old → ((i : ℕ) → line_at new i ≡ None) → KnowsBodies b old z.said z.definitions text declared → KnowsTypes b new z
left_behind b old new z text declared same none k = record {
  holds = λ name place id at is. k.holds name place id at (ap (λ l. slice_index_or l place None) (sym same) ∙ is);
  count = same_length (λ b. b.body) old new same ∙ k.count;
  told = k.told;
  no_line = none;
}

-- the bodies stay
pub bodies_left : (old new : List Body) → map (λ b. b.body) new ≡ map (λ b. b.body) old → ((place : ℕ) → place < length old → is_some (body_of old place) ≡ true) → (place : ℕ) → place < length new → is_some (body_of new place) ≡ true
bodies_left old new same all place l = ap (λ bs. is_some (slice_index_or bs place None)) same ∙ all place (subst (λ n. place < n) (same_length (λ b. b.body) old new same) l)

-- one text, or none
pub text_follows : (old new : Making) (texts : List Text) (text : List ℕ) (lines : List Declaration) → texts ≡ (text, lines) ∷ [] → ((z : Seen) → KnowsSeen old z → KnowsSeen new (seen_text z text lines)) → Follows old new texts
text_follows old new texts text lines is h = subst (Follows old new) (sym is) h

pub nothing_follows : (making : Making) (texts : List Text) → texts ≡ [] → Follows making making texts
nothing_follows making texts is = subst (Follows making making) (sym is) (λ z k. k)

seen_append : (z : Seen) (xs ys : List Text) → seen_after z (xs ++ ys) ≡ seen_after (seen_after z xs) ys
seen_append z [] ys = refl
seen_append z (x ∷ xs) ys = seen_append (seen_text z x.0 x.1) xs ys

-- one more step, and all steps
module _ (names : List (String Global)) (sources : List (Vec ℕ Global)) (texts : List SignatureText) (steps : List Step) (k : ℕ) where
  pub seen_more : (d : Step) → k < length steps → seen_after (seen_before names sources texts steps k) (of_step one_text sources texts (get_or steps k d)) ≡ seen_before names sources texts steps (k + 1)
  seen_more d h = sym (seen_append nothing_seen (of_steps one_text sources texts (take k steps)) (of_step one_text sources texts (get_or steps k d))) ∙ ap (seen_after nothing_seen) (steps_more one_text sources texts steps k d h)

  pub step_seen : (d : Step) → k < length steps → (old new : Making) → KnowsSeen old (seen_before names sources texts steps k) → Follows old new (of_step one_text sources texts (get_or steps k d)) → KnowsSeen new (seen_before names sources texts steps (k + 1))
  step_seen d h old new a f = subst (KnowsSeen new) (seen_more d h) (f (seen_before names sources texts steps k) a)

  pub all_seen : (all : List Step) → steps ≡ all → length steps ≤ k → seen_before names sources texts steps k ≡ seen_in names sources texts all
  all_seen all same h = ap (seen_after nothing_seen) (all_steps_said one_text sources texts all steps k same h)
