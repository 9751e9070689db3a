use Rattle.std.proofs.Common.{◌≡◌, ◌-◌, length, drop}
use Rattle.text.specs.Text.{put_all}
use Rattle.text.specs.Pages.{sheet_of}
use Rattle.words.specs.Words.{words_in}
use Rattle.words.proofs.put_words.Given as goal

abbrev pub invariant-loop-at : goal.invariant-loop-at
invariant-loop-at l =
    (l.page.out.ghost_name ≡ l.initial.page.out.ghost_name)
    × (put_all (sheet_of l.page) (words_in (drop l.at l.words)) ≡ put_all (sheet_of l.initial.page) (words_in l.words))

abbrev pub decreases-loop-at : goal.decreases-loop-at
decreases-loop-at l = length l.words - l.at
