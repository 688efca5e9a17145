use Rattle.lp_query.proofs.compiled.Compiled.of.Goals as goal

pub returns-clause-variables : goal.returns-clause-variables
returns-clause-variables c =
    let t = c.in_ok-raw.ensures.text in
    let p = c.in_ok-typed.ensures.typed in
    record { tokens = t.0; lexed = t.1.0; raw = c.in_ok-raw.raw; read = t.1.1; places = _; typing = p.0; typed = p.1; are = c.in_ok-names.ensures }
