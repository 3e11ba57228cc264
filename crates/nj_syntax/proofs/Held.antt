-- Each step keeps what the state says of the tokens read, and so does a run.
use Rattle.std.proofs.Common.{◌≡◌, ℕ, ◌+◌, Bool, List, [], ◌∷◌, ◌++◌, length, Some, sym, subst, append_assoc, append-nil}
use Rattle.nj_formula.specs.declared.argument.Argument.{Argument}
use Rattle.nj_syntax.specs.declared.token.Token.{Token}
use Rattle.nj_syntax.specs.declared.state.Pending.{Pending}
use Rattle.nj_syntax.specs.Terms.{Deep, AreArguments, name, apply}
use Rattle.nj_syntax.specs.Grammar.{predicate, atom, word}
use Rattle.nj_syntax.specs.Reduced.{bound_names}
use Rattle.nj_syntax.specs.Steps.{State, step, step_comma}
use Rattle.nj_syntax.proofs.Runs.{Runs, stays, goes}
use Rattle.nj_syntax.proofs.Around.{Around, some, none, Within, Reached}
use Rattle.nj_syntax.proofs.Frames.{gathered, after_argument}
use Rattle.nj_syntax.proofs.Kept.{Keeps, moved, operator_kept, operand_kept}

comma_kept : {formula : Bool} {pending : List Pending} {read : List Deep} → Within formula pending read → {last : List Deep} {t : Argument}
    → AreArguments (bound_names pending) (length pending) last (t ∷ []) → (token : Token)
    → Keeps formula (read ++ last) token (step_comma pending t token)
comma_kept Within.bare one token = tt
comma_kept (Within.predicate {pending = below} {read = before} {inside = inside} x around ordinary are) {last = last} one Token.Comma =
    moved (after_argument before inside last (Token.Name x, length below) (Token.Open, length below) (Token.Comma, length below + 1))
    (Reached.argument (Within.predicate x around ordinary (some (gathered are one))))
comma_kept (Within.predicate {pending = below} {read = before} {inside = inside} x around ordinary are) {last = last} one Token.Close =
    moved (after_argument before inside last (Token.Name x, length below) (Token.Open, length below) (Token.Close, length below))
    (Reached.operator around (predicate ordinary (gathered are one)))
comma_kept (Within.function {pending = below} {read = before} {inside = inside} f within are) {last = last} one Token.Comma =
    moved (after_argument before inside last (Token.Name f, length below) (Token.Open, length below) (Token.Comma, length below + 1))
    (Reached.argument (Within.function f within (some (gathered are one))))
comma_kept (Within.function {pending = below} {read = before} {inside = inside} f within are) {last = last} one Token.Close =
    moved (after_argument before inside last (Token.Name f, length below) (Token.Open, length below) (Token.Close, length below))
    (Reached.comma within (apply (gathered are one)))
comma_kept _ one _ = tt

kept : {formula : Bool} {s : State} {read : List Deep} → Reached formula s read → (t : Token) → Keeps formula read t (step s t)
kept (Reached.operand around) t = operand_kept around t
kept (Reached.binder {pending = pending} {read = read} q around outer) (Token.Name x) =
    moved (append_assoc read ((Token.Name (word q), length pending) ∷ []) ((Token.Name x, length pending) ∷ [])) (Reached.dot q x around outer)
kept (Reached.dot {pending = pending} {read = read} q x around outer) Token.Dot =
    moved (append_assoc read ((Token.Name (word q), length pending) ∷ (Token.Name x, length pending) ∷ []) ((Token.Dot, length pending) ∷ []))
    (Reached.operand (Around.body q x around outer))
kept (Reached.atom {pending = pending} {read = read} x around ordinary) Token.Open =
    moved (append_assoc read ((Token.Name x, length pending) ∷ []) ((Token.Open, length pending) ∷ []))
    (Reached.argument (Within.predicate x around ordinary none))
kept (Reached.atom x around ordinary) t = operator_kept around (atom {x = x} ordinary) t
kept (Reached.operator around reads) t = operator_kept around reads t
kept (Reached.argument {read = read} within) (Token.Name x) = Reached.head x within
kept (Reached.head {pending = pending} {read = read} x within) Token.Open =
    moved (append_assoc read ((Token.Name x, length pending) ∷ []) ((Token.Open, length pending) ∷ []))
    (Reached.argument (Within.function x within none))
kept (Reached.head x within) t = comma_kept within name t
kept (Reached.comma within one) t = comma_kept within one t
kept _ _ = tt

kept_at : {formula : Bool} {s next : State} {read : List Deep} (t : Token) {d : ℕ} → Reached formula s read → step s t ≡ Some (next, d)
    → Reached formula next (read ++ (t, d) ∷ [])
kept_at {formula} {read = read} t here is = subst (λ next. Keeps formula read t next) is (kept here t)

pub reached : {formula : Bool} {s end : State} {more : List Deep} → Runs s more end → (read : List Deep) → Reached formula s read
    → Reached formula end (read ++ more)
reached {formula} {end = end} stays read here = subst (λ ts. Reached formula end ts) (sym (append-nil read)) here
reached {formula} {end = end} (goes {t = t} {d = d} {more = more} is run) read here =
    subst (λ ts. Reached formula end ts) (append_assoc read ((t, d) ∷ []) more) (reached run (read ++ (t, d) ∷ []) (kept_at t here is))
