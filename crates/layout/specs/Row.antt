-- What the code says of a tag, set beside the definitions of crate `sheet`.
use Rattle.sheet.specs.Cell.{unused, any, bit, table, text, small, Tag, unknown, not_carried, carried}
use Rattle.sheet.specs.Cell as Sheet
use Rattle.layout.specs.declared.Field.{Field}
use Rattle.layout.specs.declared.Field.TheVariants.{Unused, Any, Bit, Table, SmallFrom1, Text, TextFrom1, TextFrom2}
use Rattle.layout.specs.declared.Row.{Row}
use Rattle.layout.specs.declared.Row.TheVariants.{Unknown, NotCarried, Carried}

-- What a field may hold, as the definitions have it.
abbrev pub field_of : Field → Sheet.Field
field_of Unused = unused
field_of Any = any
field_of Bit = bit
field_of Table = table
field_of SmallFrom1 = small 1
field_of Text = text 0
field_of TextFrom1 = text 1
field_of TextFrom2 = text 2

-- What a row says of its tag.
abbrev pub tag_from : Row → Tag
tag_from Unknown = unknown
tag_from NotCarried = not_carried
tag_from (Carried f) = carried f.flags (field_of f.a) (field_of f.b) (field_of f.c)
