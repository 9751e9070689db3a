-- What is put on a page stays on it. Assumes nothing.
use Rattle.std.specs.Prelude.{ℕ, List, length, ◌≤◌}
use Rattle.std.proofs.Common.{sym, subst}
use Rattle.text.specs.Text.{Sheet}
use Rattle.text.specs.declared.Page.{Page}
use Rattle.text.specs.Pages.{sheet_of, Puts}
use Rattle.text.proofs.laws.Pieces.{past_within}
use Rattle.standin.specs.Pages.{StaysOn}

pub stays_on : (p q : Page) (pieces : List (List ℕ)) → Puts p q pieces → StaysOn p q
stays_on p q pieces put = (put.0, λ within. subst (λ (s : Sheet). s.past ≤ length s.text) (sym put.1) (past_within (sheet_of p) pieces within))
