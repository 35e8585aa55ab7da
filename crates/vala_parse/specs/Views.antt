-- What the parsers hand one another, as the grammar sees it.
use Rattle.std.specs.Prelude.{Bool, true, false}
use Rattle.vala_tree.specs.declared.names.NameTree.{NameTree}
use Rattle.vala_file_grammar.specs.Heads as heads
use Rattle.vala_file_grammar.specs.Parts as part
use Rattle.vala_file_grammar.specs.Trees as tree
use Rattle.vala_parse.specs.declared.places.Place.{Place}
use Rattle.vala_parse.specs.declared.places.Place.TheVariants as place
use Rattle.vala_parse.specs.declared.places.Owner.{Owner}
use Rattle.vala_parse.specs.declared.places.Owner.TheVariants as owner
use Rattle.vala_parse.specs.declared.places.Bodied.{Bodied}
use Rattle.vala_parse.specs.declared.places.Bodied.TheVariants as bodied
use Rattle.vala_parse.specs.declared.heads.HeadKind.{HeadKind}
use Rattle.vala_parse.specs.declared.heads.HeadKind.TheVariants as head

abbrev pub place_in : Place → part.Place
place_in place.Outside = part.Outside
place_in (place.Inside i c) = part.Inside i c.now

abbrev pub owner_in : Owner → part.Owner
owner_in owner.Plain = part.Plain
owner_in owner.Async = part.Async
owner_in owner.Signal = part.Signal

abbrev pub bodied_in : Bodied → part.Bodied
bodied_in bodied.Method = part.Method
bodied_in bodied.InterfaceMethod = part.InterfaceMethod
bodied_in bodied.Accessing = part.Accessing

abbrev pub head_in : HeadKind → heads.HeadKind
head_in head.Class = heads.AClass
head_in head.Field = heads.AField
head_in head.Method = heads.AMethod
head_in head.Property = heads.AProperty
head_in head.Signal = heads.ASignal
head_in head.Construct = heads.AConstruct
head_in head.Creation = heads.ACreation
head_in head.Another = heads.Another

-- the name of a creation method of the class that stands around it
abbrev pub creates : part.Place → NameTree → Bool
creates part.Outside n = false
creates (part.Inside i c) n = tree.names_creation c n

abbrev pub is_inside : part.Place → Bool
is_inside part.Outside = false
is_inside (part.Inside i c) = true
