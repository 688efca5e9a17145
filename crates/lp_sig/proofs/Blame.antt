-- What is to blame for a refusal, seen from the declaration.
use Rattle.std.proofs.Common.{◌≡◌, ℕ, ◌+◌, ◌<◌, ◌≤◌, List, ◌++◌, length, take, take_all, get_or, refl, sym, ap, subst, ◌∙◌, arith, Result, Ok, Err, inl, inr, Bool, true, false}
use Rattle.std.specs.Global.{Global}
use Rattle.std.specs.Prelude.{◌≢◌, Contains, IfOk, ◌⊎◌, String, Vec, string_bytes, nat_le}
use Rattle.std.proofs.lemmas.List.{get_or_default}
use Rattle.std.proofs.lemmas.List.Elements.{All-more}
use Rattle.std.proofs.lemmas.Bool.{leb-true, leb-false}
use Rattle.lp_base.specs.declared.place.Spot.{Spot}
use Rattle.lp_syntax.specs.declared.text.Declaration.{Declaration}
use Rattle.lp_syntax.specs.declared.text.SignatureText.{SignatureText}
use Rattle.lp_sig.specs.Pieces.{spelled}
use Rattle.lp_sig.specs.Refusals.{IsFaultIn, IsAt, IsAtFault, AreTaken, HasItsHeader, HasOtherHeader, IsStepRefused, IsStepTaken, AreStepsTaken, seen_before, constants_before, IsFreeOfCircles, IsRefusedFrom, IsRefusal, ways}
use Rattle.lp_sig.specs.Rows.{Row}
use Rattle.lp_sig.specs.Standing.{seen_count, AllStand}
use Rattle.lp_sig.specs.Constants.{Written, constants_in, AreTakenConstants}
use Rattle.lp_sig.specs.Abbreviations.{Seen, seen_text}
use Rattle.lp_sig.specs.Faults.{IsSentenceFault, IsSound, AreSound}
use Rattle.lp_sig.specs.Limits.{IsWithin, AreWithin}
use Rattle.lp_sig.specs.Loading.{Way, IsLoadOrder, HasNoCircle}
use Rattle.lp_sig.specs.Walking.{IsFirstCircleFault}
use Rattle.lp_sig.proofs.NoCircle.{of_sentence}
use Rattle.lp_sig.specs.declared.walk.Step.{Step}
use Rattle.lp_sig.specs.declared.walk.Step.TheVariants.{Enter, Declare}
use Rattle.lp_sig.specs.declared.fault.SigFault.{SigFault}
use Rattle.lp_sig.specs.declared.fault.SigFault.TheVariants as fault

pub both_ok : {T E : Type 0} (r : Result T E) (P Q : T → Type 0) → IfOk r P → IfOk r Q → IfOk r (λ x. P x × Q x)
both_ok (Ok x) P Q p q = (p, q)
both_ok (Err e) P Q p q = tt

-- a line at fault, where those before it pass no limit and have no fault
pub line_at_fault : (text : List ℕ) (from : ℕ) (z : Seen) (rows : List (Row Written)) (lines ds : List Declaration) (i : ℕ) (d : Declaration)
    (e : SigFault) → ds ≡ lines → i < length ds → d ≡ get_or ds i d → AreWithin text (take i lines) → AreSound from text z (take i lines) →
    AreTakenConstants from z rows (constants_in text (take i lines)) →
    IsSentenceFault from text z (rows ++ constants_in text (take i lines)) d e → IsFaultIn text from z rows lines e
line_at_fault text from z rows lines ds i d e same h at before sound constants why = inr (record { k = i; line = d; at_line = subst (λ l. IsAt l i d) same (h, sym at); why = why; before = before; sound = sound; constants = constants })

pub nothing_sound : (from : ℕ) (text : List ℕ) (z : Seen) (lines : List Declaration) → AreSound from text z (take 0 lines)
nothing_sound from text z lines = λ k d h. absurd (omega (arith, h))

pub sound_more : (from : ℕ) (text : List ℕ) (z : Seen) (lines ds : List Declaration) (i : ℕ) (d : Declaration) → ds ≡ lines → i < length ds → d ≡ get_or ds i d → AreSound from text z (take i lines) → IsSound from text z d → AreSound from text z (take (i + 1) lines)
sound_more from text z lines ds i d same h at before this = All-more (IsSound from text z) lines i d (subst (λ l. i < length l) same h) before (subst (IsSound from text z) (at ∙ ap (λ l. get_or l i d) same) this)

pub sound_all : (from : ℕ) (text : List ℕ) (z : Seen) (lines ds : List Declaration) (i : ℕ) → ds ≡ lines → length ds ≤ i → AreSound from text z (take i lines) → AreSound from text z lines
sound_all from text z lines ds i same h all = subst (AreSound from text z) (take_all i lines (subst (λ l. length l ≤ i) same h)) all

pub nothing_within : (text : List ℕ) (lines : List Declaration) → AreWithin text (take 0 lines)
nothing_within text lines = λ k d h. absurd (omega (arith, h))

pub within_more : (text : List ℕ) (lines ds : List Declaration) (i : ℕ) (d : Declaration) → ds ≡ lines → i < length ds → d ≡ get_or ds i d → AreWithin text (take i lines) → IsWithin text d → AreWithin text (take (i + 1) lines)
within_more text lines ds i d same h at before this = All-more (IsWithin text) lines i d (subst (λ l. i < length l) same h) before (subst (IsWithin text) (at ∙ ap (λ l. get_or l i d) same) this)

pub within_all : (text : List ℕ) (lines ds : List Declaration) (i : ℕ) → ds ≡ lines → length ds ≤ i → AreWithin text (take i lines) → AreWithin text lines
within_all text lines ds i same h all = subst (AreWithin text) (take_all i lines (subst (λ l. length l ≤ i) same h)) all

pub text_taken : (sources : List (Vec ℕ Global)) (texts : List SignatureText) (z : Seen) (rows : List (Row Written)) (i : ℕ) (source : Vec ℕ Global) (text : SignatureText) (bytes : List ℕ) → bytes ≡ source.items → IsAt sources i source → IsAt texts i text →
    AreWithin bytes text.lines.items → AreSound (seen_count z) bytes (seen_text z bytes text.lines.items) text.lines.items → AreTakenConstants
    (seen_count z) (seen_text z bytes text.lines.items) rows (constants_in bytes text.lines.items) → AllStand (seen_count z)
    (seen_text z bytes text.lines.items) → AreTaken sources texts z rows i
text_taken sources texts z rows i source text bytes same a b f g h s = record {
  source = source;
  text = text;
  at_source = a;
  at_text = b;
  within = subst (λ t. AreWithin t text.lines.items) same f;
  sound = subst (λ t. AreSound (seen_count z) t (seen_text z t text.lines.items) text.lines.items) same g;
  constants = subst (λ t. AreTakenConstants (seen_count z) (seen_text z t text.lines.items) rows (constants_in t text.lines.items)) same h;
  stand = subst (λ t. AllStand (seen_count z) (seen_text z t text.lines.items)) same s;
}

pub text_at_fault : (sources : List (Vec ℕ Global)) (texts : List SignatureText) (z : Seen) (rows : List (Row Written)) (i : ℕ) (source : Vec ℕ Global) (text : SignatureText) (bytes : List ℕ) (e : SigFault) → bytes ≡ source.items → IsAt sources i source → IsAt texts i text →
    IsFaultIn bytes (seen_count z) (seen_text z bytes text.lines.items) rows text.lines.items e → IsAtFault sources texts z rows i e
text_at_fault sources texts z rows i source text bytes e same a b f = record { source = source; text = text; at_source = a; at_text = b; fault = subst (λ t. IsFaultIn t (seen_count z) (seen_text z t text.lines.items) rows text.lines.items e) same f }

module _ (names : List (String Global)) (sources : List (Vec ℕ Global)) (texts : List SignatureText) where
  pub other_header : (i : ℕ) (name : String Global) (source : Vec ℕ Global) (text : SignatureText) (bytes : List ℕ) (e : SigFault) → bytes ≡ source.items → IsAt names i name → IsAt sources i source → IsAt texts i text →
      (e ≡ fault.Header text.header) × (spelled bytes text.header ≢ string_bytes name) → HasOtherHeader names sources texts i e
  other_header i name source text bytes e same n a b h = record {
    name = name;
    source = source;
    text = text;
    is = record { at_name = n; at_source = a; at_text = b };
    fault = h.0;
    other = subst (λ t. spelled t text.header ≢ string_bytes name) same h.1;
  }

  pub its_header : (i : ℕ) (name : String Global) (source : Vec ℕ Global) (text : SignatureText) (bytes : List ℕ) → bytes ≡ source.items → IsAt names i name → IsAt sources i source → IsAt texts i text →
      spelled bytes text.header ≡ string_bytes name → HasItsHeader names sources texts i
  its_header i name source text bytes same n a b h = record {
    name = name;
    source = source;
    text = text;
    is = record { at_name = n; at_source = a; at_text = b };
    same = subst (λ t. spelled t text.header ≡ string_bytes name) same h;
  }

  -- no step is refused for a circle
  no_circle : (z : Seen) (rows : List (Row Written)) (step : Step) (s : Spot) → IsStepRefused names sources texts z rows step (fault.CyclicSignature s) → ⊥
  no_circle z rows (Enter i) s h = let e = h.fault in absurd (cc)
  no_circle z rows (Declare i) s h = by h.fault
    where
      by : IsFaultIn h.source.items (seen_count z) (seen_text z h.source.items h.text.lines.items) rows h.text.lines.items (fault.CyclicSignature s) → ⊥
      by (inl e) = absurd (cc)
      by (inr r) = of_sentence (seen_count z) h.source.items (seen_text z h.source.items h.text.lines.items) (rows ++ constants_in h.source.items (take r.k h.text.lines.items)) r.line s (fault.CyclicSignature s) r.why refl

  -- the first step that is refused
  module _ (root : ℕ) (steps : List Step) (k : ℕ) (step : Step) (loaded : IsFreeOfCircles names sources texts root steps) (h : k < length steps) (is : step ≡ get_or steps k step) (taken : AreStepsTaken names sources texts steps k) where
    refused_at : (e : SigFault) → IsStepRefused names sources texts (seen_before names sources texts steps k) (constants_before names sources texts steps k) step e → IsRefusedFrom names sources texts root e
    refused_at e r = record { steps = steps; loaded = loaded; k = k; step = step; at_step = (h, sym is); refused = r; taken = taken }

    pub step_refused : (e : SigFault) → (e ≡ fault.Memory) ⊎ IsStepRefused names sources texts (seen_before names sources texts steps k) (constants_before names sources texts steps k) step e → IsRefusal names sources texts root e
    step_refused e (inl m) = subst (IsRefusal names sources texts root) (sym m) tt
    step_refused (fault.UnknownKind s) (inr r) = refused_at (fault.UnknownKind s) r
    step_refused (fault.Arity s) (inr r) = refused_at (fault.Arity s) r
    step_refused (fault.Differ s) (inr r) = refused_at (fault.Differ s) r
    step_refused (fault.CyclicAbbreviation s) (inr r) = refused_at (fault.CyclicAbbreviation s) r
    step_refused (fault.CyclicSignature s) (inr r) = absurd (no_circle (seen_before names sources texts steps k) (constants_before names sources texts steps k) step s r)
    step_refused (fault.Limit l) (inr r) = refused_at (fault.Limit l) r
    step_refused fault.Memory (inr r) = tt
    step_refused (fault.Header s) (inr r) = refused_at (fault.Header s) r

  pub step_at_fault : (root : ℕ) (steps seen : List Step) (k : ℕ) (d : Step) (e : SigFault) → seen ≡ steps → IsFreeOfCircles names sources texts root steps → k < length seen → AreStepsTaken names sources texts seen k →
      (e ≡ fault.Memory) ⊎ IsStepRefused names sources texts (seen_before names sources texts seen k) (constants_before names sources texts seen k) (get_or seen k d) e → IsRefusal names sources texts root e
  step_at_fault root steps seen k d e same loaded h taken refused =
      step_refused root seen k (get_or seen k d) (subst (IsFreeOfCircles names sources texts root) (sym same) loaded) h (sym (get_or_default seen k (get_or seen k d) d h)) taken e refused

  -- the first circle
  pub circle : (root : ℕ) (steps : List Step) (e : SigFault) → IsLoadOrder (ways names sources texts) root steps → IsFirstCircleFault (ways names sources texts) steps e → IsRefusal names sources texts root e
  circle root steps (fault.UnknownKind s) order h = absurd h
  circle root steps (fault.Arity s) order h = absurd h
  circle root steps (fault.Differ s) order h = absurd h
  circle root steps (fault.CyclicAbbreviation s) order h = absurd h
  circle root steps (fault.CyclicSignature s) order h = record { steps = steps; order = order; circle = h }
  circle root steps (fault.Limit l) order h = absurd h
  circle root steps fault.Memory order h = tt
  circle root steps (fault.Header s) order h = absurd h

  -- one more step is taken
  pub taken_more : (steps : List Step) (k : ℕ) (d : Step) → k < length steps → AreStepsTaken names sources texts steps k → IsStepTaken names sources
      texts (seen_before names sources texts steps k) (constants_before names sources texts steps k) (get_or steps k d) → AreStepsTaken names sources
      texts steps (k + 1)
  taken_more steps k d h before this j s l at = by (nat_le k j) refl
    where
      by : (t : Bool) → nat_le k j ≡ t → IsStepTaken names sources texts (seen_before names sources texts steps j) (constants_before names sources texts steps j) s
      by false t = before j s (leb-false k j t) at
      by true t =
          let m : k ≤ j = leb-true k j t in
          let e : j ≡ k = omega (arith, m, l) in
          let same : get_or steps k d ≡ s = get_or_default steps k d s h ∙ ap (λ n. get_or steps n s) (sym e) ∙ at.1 in
          subst (λ n. IsStepTaken names sources texts (seen_before names sources texts steps n) (constants_before names sources texts steps n) s) (sym e) (subst (IsStepTaken names sources texts (seen_before names sources texts steps k) (constants_before names sources texts steps k)) same this)

  pub all_taken : (steps seen : List Step) (k : ℕ) → seen ≡ steps → length seen ≤ k → AreStepsTaken names sources texts seen k → AreStepsTaken names sources texts steps (length steps)
  all_taken steps seen k same h before = subst (λ z. AreStepsTaken names sources texts z (length z)) same (λ j s l at. let m : j < k = omega (arith, l, h) in before j s m at)

  -- the steps, as the walk gives them
  pub free_steps : (root : ℕ) (graph : List (List Way)) (steps seen : List Step) → graph ≡ ways names sources texts → seen ≡ steps → IsLoadOrder graph root steps → ((j : ℕ) → Contains seen (Enter j) → HasNoCircle graph j) → IsFreeOfCircles names sources texts root steps
  free_steps root graph steps seen same all order none = record {
    order = subst (λ w. IsLoadOrder w root steps) same order;
    free = λ j d. subst (λ w. HasNoCircle w j) same (none j (subst (λ z. Contains z (Enter j)) (sym all) d));
  }
