use Rattle.std.proofs.Common.{◌≡◌, drop, map}
use Rattle.c_printer.specs.Text.{seen}
use Rattle.c_printer.specs.Marks.{put_marks, in_row}
use Rattle.c_printer.specs.PutValues.{suffix_marks, link_marks, printed_link, choice_marks}
use Rattle.c_printer.proofs.values.+value.Given as goal

abbrev pub invariant-put_suffixes-loop-suffix : goal.invariant-put_suffixes-loop-suffix
invariant-put_suffixes-loop-suffix l = put_marks (seen l.out) (in_row (map (suffix_marks l.brackets) (drop l.suffix-index l.suffixes))) ≡ put_marks (seen l.initial.out) (in_row (map (suffix_marks l.brackets) l.suffixes))

abbrev pub invariant-put_links-loop-link : goal.invariant-put_links-loop-link
invariant-put_links-loop-link l = put_marks (seen l.out) (link_marks (map (printed_link l.brackets) (drop l.link-index l.links))) ≡ put_marks (seen l.initial.out) (link_marks (map (printed_link l.brackets) l.links))

abbrev pub invariant-put_choices-loop-choice : goal.invariant-put_choices-loop-choice
invariant-put_choices-loop-choice l = put_marks (seen l.out) (in_row (map (choice_marks l.brackets) (drop l.choice-index l.choices))) ≡ put_marks (seen l.initial.out) (in_row (map (choice_marks l.brackets) l.choices))
