-- Texts that stop, and their refusals.
use Rattle.std.specs.Prelude.{codes}
use Rattle.c_tree.specs.declared.kinds.Cause.TheVariants as cause
use Rattle.c_tree.specs.Examples.{Refused}

-- texts of which a front alone is a text's
pub record RefusedFronts : Type 0 where
  -- a name that nothing declares is known with its token
  pub name_read : Refused (codes "int main (int argc, char **argv) { gint a; a = b $") cause.Undeclared 47
  -- a value that does not fit is not known before the token behind it
  pub value_open : Refused (codes "int main (int argc, char **argv) { gchar *s; s = 1 $") cause.Token 51
  -- and is with it
  pub value_whole : Refused (codes "int main (int argc, char **argv) { gchar *s; s = 1; $") cause.Misfit 49
  -- a label may still come
  pub label_open : Refused (codes "int main (int argc, char **argv) { goto L; $") cause.Token 43
  -- a name that a statement begins with may be a label
  pub first_name : Refused (codes "int main (int argc, char **argv) { a $") cause.Token 37
  -- and is none in front of an equals sign
  pub stored_name : Refused (codes "int main (int argc, char **argv) { a = $") cause.Undeclared 35
  -- the bracket behind this word is the 65th, and not the word stops the text
  pub deep_word : Refused (codes "int main (int argc, char **argv) { glong i; i = (((((((((((((((((((((((((((((((((((((((((((((((((((((((((((((((sizeof (") cause.Syntax 118
