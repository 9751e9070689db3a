-- What a function that puts an answer leaves of its page.
use Rattle.std.specs.Prelude.{◌≤◌, ◌≡◌, length}
use Rattle.text.specs.declared.Page.{Page}

-- it is a page of the same buffer, and what was put ends within it where it did before
abbrev pub StaysOn : Page → Page → Type 0
StaysOn p q = (q.out.ghost_name ≡ p.out.ghost_name) × (p.past ≤ length p.out.now → q.past ≤ length q.out.now)
